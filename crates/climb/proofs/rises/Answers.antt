-- Key after key.
use Rattle.climb.proofs.Order.{ordered_start, ordered_more, ordered_not, ordered_end}
use Rattle.climb.proofs.rises.Goals as goal

pub loop-key-init : goal.loop-key-init
loop-key-init c = rw c.into_iter-key-iterator.ensures.into_iter_gives (ordered_start c.args.keys c.args.from)

pub returns-in_default : goal.returns-in_default
returns-in_default c =
    ordered_not c.loop-key.key-iterator c.next.new.self c.in-Some.key c.in-Some.ensures.steps c.loop-key.invariant c.link_at-link.ensures c.least_after.ensures c.in_default.is

pub loop-key-preserved : goal.loop-key-preserved
loop-key-preserved c =
    ordered_more c.loop-key.key-iterator c.next.new.self c.in-Some.key c.in-Some.ensures.steps c.loop-key.invariant c.link_at-link.ensures c.least_after.ensures c.in-Some-least_after.is

pub returns : goal.returns
returns c = ordered_end c.loop-key.invariant c.in-None.ensures.steps
