-- Key after key.
use Rattle.drawn.proofs.Scan.{scan_start, scan_more, scan_end}
use Rattle.drawn.proofs.last_snapshot.Goals as goal

pub loop-key-init : goal.loop-key-init
loop-key-init c = rw c.into_iter-key-iterator.ensures.into_iter_gives (scan_start c.args.id c.args.keys)

pub loop-key-preserved : goal.loop-key-preserved
loop-key-preserved c =
    scan_more c.args.id c.loop-key.key-iterator c.next.new.self c.in-Some.key c.in-Some.ensures.steps c.loop-key.invariant c.last_with-last.ensures

pub returns : goal.returns
returns c = scan_end c.loop-key.invariant c.in-None.ensures.steps
