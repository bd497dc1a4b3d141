-- The invariant of a binary search among the first n values of a function that does not fall, and its steps.
use Prim.Native.Nat.{ℕ, zero, suc, ◌+◌, ◌≤◌, ◌<◌, zero-le}
use mathlib.Core.Path.{◌≡◌}
use mathlib.Core.Logic.{◌⊎◌, inl, inr}
use native.Mathlib.Decide.{dec_le}
use native.Mathlib.Nat.{lt_of_not-le, le_refl, le_trans, lt_trans, lt_of_le_of_lt, not-suc-le-zero, le_of_suc-le-suc, eq-or-lt_of_le}
use native.Mathlib.Omega.{arith}
pub use Rattle.search.specs.Bound.{Bracket}

-- one order or the other
pub le_or_lt : (a b : ℕ) → (a ≤ b) ⊎ (b < a)
le_or_lt a b = elim (dec_le a b) [ yes h ↦ inl h | no h ↦ inr (lt_of_not-le h) ]

-- f does not fall among its first n values
abbrev pub NotFalling : (ℕ → ℕ) → ℕ → Type 0
NotFalling f n = (i j : ℕ) → i ≤ j → j < n → f i ≤ f j

-- before the first turn
pub bracket_all : (f : ℕ → ℕ) (n x : ℕ) → Bracket f n x 0 n
bracket_all f n x = record {
  ordered = zero-le;
  inside = le_refl n;
  below = λ k l. absurd (not-suc-le-zero l);
  above = λ k l m. absurd (omega arith);
}

-- a turn at m: the value there is below x, or it is not
module _ (f : ℕ → ℕ) (n x low high m : ℕ) (order : NotFalling f n) (b : Bracket f n x low high) (from : low ≤ m) (to : m < high) where
  pub bracket_up : f m < x → Bracket f n x (m + 1) high
  bracket_up less = let i = b.inside in record {
    ordered = omega arith;
    inside = i;
    below = λ k l. lt_of_le_of_lt (order k m (omega arith) (omega arith)) less;
    above = b.above;
  }

  pub bracket_down : x ≤ f m → Bracket f n x low m
  bracket_down more = let i = b.inside in record {
    ordered = from;
    inside = omega arith;
    below = b.below;
    above = λ k l h. le_trans more (order m k l h);
  }

-- what rises from each place to the next rises from each place to every later one
pub rises : (f : ℕ → ℕ) (n : ℕ) → ((i : ℕ) → suc i < n → f i < f (suc i)) → (i j : ℕ) → i < j → j < n → f i < f j
rises f n up i zero l m = absurd (not-suc-le-zero l)
rises f n up i (suc j) l m = step (eq-or-lt_of_le (le_of_suc-le-suc l)) (λ less. rises f n up i j less (omega arith))
  where
    step : (i ≡ j) ⊎ (i < j) → (i < j → f i < f j) → f i < f (suc j)
    step (inl e) far = rw e (up j m)
    step (inr less) far = lt_trans (far less) (up j m)

-- the place of x is from low to low + size: for a search that keeps a place and a size, so that a turn halves the size whichever way the comparison goes
abbrev pub Sized : (ℕ → ℕ) → ℕ → ℕ → ℕ → ℕ → Type 0
Sized f n x low size = Bracket f n x low (low + size)
