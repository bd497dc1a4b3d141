-- Sets of numbers as pairs in the work words: what is among the pairs that the keys give.
use Prim.Native.Nat.{ℕ, zero, suc, ◌^◌, ◌≤◌, ◌<◌}
use mathlib.Core.Path.{◌≡◌, refl, sym, ap, ap₂, ◌∙◌}
use mathlib.Core.Bool.{Bool, true, false, ◌&&◌, ◌||◌, or-false, and_assoc, and_comm}
use mathlib.Core.List.{List, [], ◌∷◌}
use native.Mathlib.Omega.{arith}
use lib.ListN.{length}
use lib.Dec.{eqb}
use borrow.Author.Tests.{ne_eqb, eqb-true}
use Rattle.pairs.specs.Pairs.{pair, has}
pub use Rattle.pairs.proofs.Order.{both_true}
use Rattle.pairs.proofs.Bounds.{has_append}
use Rattle.pairs.proofs.Words.{pair_equal}
use Rattle.book.specs.Book.{Bkey, is, key_end, keys_from}
use Rattle.book.specs.Walk.{KeysFit}
use Rattle.book.proofs.Laws.{key_end_lem}
use Rattle.walk.specs.Keys.{key_at, gather, any_key}

pub aside : (x m e : Bool) → (x && m) && e ≡ x && (e && m)
aside x m e = and_assoc x m e ∙ ap (λ (b : Bool). x && b) (and_comm m e)

-- pairs of a number and its set
-- one pair
pub has_same : (x y t : ℕ) → has (pair x t) (pair y t ∷ []) ≡ eqb y x
unfolding has
has_same x y t = rw (pair_equal x y t) (or-false (eqb y x))

pub has_other : (x y t u : ℕ) → (pair x t ≡ pair y u → ⊥) → has (pair x t) (pair y u ∷ []) ≡ false
unfolding has
has_other x y t u d = rw (ne_eqb (pair x t) (pair y u) d)

pub has_nil : (x : ℕ) → has x [] ≡ false
unfolding has
has_nil x = refl

-- keys of two btrees
pub other_btree : (k : Bkey) (b t c u : ℕ) → (b ≡ c → ⊥) → is b t k ≡ true → is c u k ≡ false
unfolding is
other_btree k b t c u d e = rw (ne_eqb k.btree c (λ x. d (sym (eqb-true k.btree b (both_true _ (eqb k.key_type t) e).0) ∙ x)))

-- a number is among what all keys give if it is among what some key gives
pub any_by : (x : ℕ) (of : ℕ → Bkey → List ℕ) (test : Bkey → Bool) (s : List ℕ) → length s ≤ 1048576 → ((p : ℕ) (k : Bkey) → p < 2 ^ 32 → has x (of p k) ≡ test k)
    → (n p : ℕ) → KeysFit s n p → has x (gather of s n p) ≡ any_key test (keys_from s n p)
unfolding gather keys_from any_key KeysFit
any_by x of test s few one zero p fit = has_nil x
any_by x of test s few one (suc n) p fit =
    has_append x (of p (key_at s p)) (gather of s n (key_end s p))
    ∙ ap₂ (λ (a b : Bool). a || b) (one p (key_at s p) (omega (arith, key_end_lem s p, fit.0))) (any_by x of test s few one n (key_end s p) fit.1)
