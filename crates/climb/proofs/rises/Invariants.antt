-- The keys that were passed rise.
use Rattle.climb.proofs.Order.{Ordered}
use Rattle.climb.proofs.rises.Given as goal

abbrev pub invariant-loop-key : goal.invariant-loop-key
invariant-loop-key l = Ordered l.fn.keys l.from l.key-iterator l.least
