-- One id more.
use Rattle.std.proofs.Common.{◌≡◌, ◌∙◌, refl, ap, ℕ, ◌+◌, ◌<◌, Bool, ◌||◌, List, length, get_or, take, arith}
use lib.Dec.{eqb}
use Rattle.pairs.specs.Pairs.{has}
use Rattle.ancestors.proofs.Shift.{has_more}
use Rattle.ancestors.proofs.contains.Goals as goal

-- one of the three
more : (x : ℕ) (ids : List ℕ) (i : ℕ) {b : Bool} → i < length ids → b ≡ has x (take i ids) → b || eqb x (get_or ids i 0) ≡ has x (take (i + 1) ids)
more x ids i h e = ap (λ (b : Bool). b || eqb x (get_or ids i 0)) e ∙ has_more x ids i h

pub loop-i-init : goal.loop-i-init
unfolding has
loop-i-init c = (refl, refl, refl)

pub loop-i-preserved : goal.loop-i-preserved
loop-i-preserved c =
    let a = c.args in
    let l = c.loop-i in
    let h : l.i < length a.ids.now = omega arith in
    (more a.a a.ids.now l.i h l.invariant.0, more a.b a.ids.now l.i h l.invariant.1, more a.c a.ids.now l.i h l.invariant.2)
