-- By the link, and test after test.
use Rattle.std.proofs.Common.{refl, arith}
use Rattle.climb.specs.Links.{Says}
use Rattle.climb.proofs.Pass.{says_top, says_up}
use Rattle.climb.proofs.step_by.Goals as goal

pub returns-in_default : goal.returns-in_default
returns-in_default c = Says.other c.in_default.is refl

pub returns-then-id-at : goal.returns-then-id-at
returns-then-id-at c = Says.lower c.in-Some.is (omega arith) refl

pub returns-then-at-id : goal.returns-then-at-id
returns-then-at-id c = Says.past c.in-Some.is (omega arith) refl

pub returns-then-parent-eq0 : goal.returns-then-parent-eq0
returns-then-parent-eq0 c = says_top c.in-Some.is (omega arith) (omega arith) (omega arith) (omega arith)

pub returns-then-links-eq1024 : goal.returns-then-links-eq1024
returns-then-links-eq1024 c = Says.full c.in-Some.is (omega arith) (omega arith) (omega arith) refl

pub returns-then-parent-at : goal.returns-then-parent-at
returns-then-parent-at c = Says.lost c.in-Some.is (omega arith) (omega arith) refl

pub returns : goal.returns
returns c = says_up c.in-Some.is (omega arith) (omega arith) (omega arith) (omega arith) (omega arith)
