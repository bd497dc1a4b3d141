-- The last of the keys that were passed.
use Rattle.drawn.proofs.Scan.{Scanning}
use Rattle.drawn.proofs.last_snapshot.Given as goal

abbrev pub invariant-loop-key : goal.invariant-loop-key
invariant-loop-key l = Scanning l.id l.fn.keys l.key-iterator l.last
