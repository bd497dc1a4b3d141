-- By the test.
use mathlib.Core.Path.{refl}
use native.Mathlib.Omega.{arith}
use borrow.Author.Tests.{le-leb, lt-leb}
use Rattle.states.specs.StateDistance.{nearer}
use Rattle.states.proofs.nearer.Goals as goal

pub returns-then-a-b : goal.returns-then-a-b
unfolding nearer
returns-then-a-b c =
    let x = c.args.a.distance in
    let y = c.args.b.distance in
    rw (le-leb x y (omega (arith, c.if-a-b.true))) refl

pub returns : goal.returns
unfolding nearer
returns c =
    let x = c.args.a.distance in
    let y = c.args.b.distance in
    rw (lt-leb x y (omega (arith, c.if-a-b.false))) refl
