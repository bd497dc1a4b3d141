-- By the link, and by the test.
use Rattle.std.proofs.Common.{arith}
use borrow.Author.Tests.{lt-ltb}
use Rattle.climb.specs.Links.{least_after}
use Rattle.climb.proofs.Order.{least_one_more}
use Rattle.climb.proofs.least_after.Goals as goal

pub returns-in_default : goal.returns-in_default
unfolding least_after
returns-in_default c = rw c.in_default.is

pub returns-then-number-least : goal.returns-then-number-least
unfolding least_after
returns-then-number-least c = rw (c.in-Some.is, lt-ltb _ _ c.if-number-least.true)

pub returns : goal.returns
returns c = least_one_more _ c.in-Some.is (omega arith) (omega arith)
