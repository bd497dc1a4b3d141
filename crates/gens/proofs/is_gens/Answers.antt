-- By the tests.
use Rattle.std.proofs.Common.{◌∙◌, sym}
use Rattle.gens.specs.BucketGensAgainstAlloc.{is_gens}
use Rattle.gens.proofs.is_gens.Goals as goal

pub returns-then-is : goal.returns-then-is
unfolding is_gens
returns-then-is c = rw (sym c.is.ensures ∙ c.if-is.true, c.inode.ensures)

pub returns : goal.returns
unfolding is_gens
returns c = rw (sym c.is.ensures ∙ c.if-is.false)
