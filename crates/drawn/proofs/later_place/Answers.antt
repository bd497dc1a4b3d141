-- The four cases of two places.
use Rattle.std.proofs.Common.{◌≡◌, ◌∙◌, sym, ℕ, max, arith}
use Rattle.std.specs.Prelude.{Some, cond}
use lib.Dec.{leb}
use borrow.Author.Tests.{le-leb, lt-leb}
use Rattle.findings.proofs.Laws.{split}
use Rattle.maps.specs.LastKeys.{later}
use Rattle.drawn.proofs.later_place.Goals as goal

greater : (q r : ℕ) → Some (max q r) ≡ cond (leb q r) (Some r) (Some q)
greater q r = split q r
    (λ h. let e : max q r ≡ r = omega arith in rw (e, le-leb q r h))
    (λ h. let e : max q r ≡ q = omega arith in rw (e, lt-leb q r h))

pub returns-in-Some-Some : goal.returns-in-Some-Some
unfolding later
returns-in-Some-Some c = let p = c.in-Some-Some in rw (p.is-0, p.is-1, c.max.ensures) (greater p.q p.r)

pub returns-in-Some-None : goal.returns-in-Some-None
unfolding later
returns-in-Some-None c = rw (c.in-Some-None.is-0, c.in-Some-None.is-1)

pub returns-in-None-default : goal.returns-in-None-default
unfolding later
returns-in-None-default c = rw c.in-None-default.is-0
