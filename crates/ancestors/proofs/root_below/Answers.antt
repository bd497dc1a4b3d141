-- With a root and without.
use Rattle.std.proofs.Common.{◌≡◌, add-one, arith, rules}
use borrow.Author.Tests.{lt-ltb, le-ltb}
use Rattle.ancestors.specs.Steps.{root_below}
use Rattle.ancestors.proofs.root_below.Goals as goal

pub returns-in_err-above : goal.returns-in_err-above
unfolding root_below
returns-in_err-above c = let none = c.in_err-above.was in rw none (search rules)

pub returns-then-above-lt1024 : goal.returns-then-above-lt1024
unfolding root_below
returns-then-above-lt1024 c = rw (c.in_ok-above.was, lt-ltb _ _ c.if-above-lt1024.true, add-one)

pub returns : goal.returns
unfolding root_below
returns c = rw (c.in_ok-above.was, le-ltb c.in_ok-above.above.links 1024 (omega (arith, c.if-above-lt1024.false)))
