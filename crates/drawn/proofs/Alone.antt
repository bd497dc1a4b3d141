-- Where an id has one pair only among those of a class and above it, that is the last.
use Rattle.std.specs.Prelude.{None, Some}
use Prim.Native.Nat.{ℕ, ◌+◌, ◌-◌, ◌*◌, ◌%◌, ◌^◌, ◌≤◌, ◌<◌}
use mathlib.Core.Path.{◌≡◌, refl, sym, ap, ap₂, ◌∙◌}
use mathlib.Core.Bool.{false}
use mathlib.Core.List.{List}
use native.Mathlib.Omega.{arith}
use lib.ListN.{length, get_or}
use borrow.Author.Tests.{eq-eqb, ne_eqb}
use Rattle.pairs.specs.Pairs.{pair, pairs_of, Sorted, count_below}
use Rattle.pairs.proofs.Order.{same_or_not, less_or_not}
use Rattle.pairs.proofs.Bounds.{bound_before, bound_past, bound_inside}
use Rattle.pairs.proofs.Words.{pairs_at}
use Rattle.maps.specs.Places.{number_in, which_in, place_in, is_for, last_place}
use Rattle.maps.specs.LastKeys.{later}
use Rattle.maps.proofs.Pairs.{for_parts, parts_for, for_from, for_below, not_for, last_none, last_here}
use Rattle.maps.proofs.Last.{place_second}
use Rattle.drawn.specs.Classes.{latest, Alone}

-- a pair between two bounds of a number has the number and a class between
between : (number class x : ℕ) → pair number (class * 2 ^ 32) ≤ x → x < pair number (4 * 2 ^ 32) → class ≤ 3 → (number_in x ≡ number) × (class ≤ which_in x) × (which_in x ≤ 3)
unfolding pair number_in which_in
between number class x a b c = (omega arith, omega arith, omega arith)

module _ (class number : ℕ) (least : 1 ≤ class) (most : class ≤ 3) (xs : List ℕ) (s : Sorted xs) (r : ℕ) (c : r ≡ count_below (pair number (4 * 2 ^ 32)) xs) (z : 0 < r)
    (from : pair number (class * 2 ^ 32) ≤ get_or xs (r - 1) 0) (past : 1 < r → get_or xs (r - 2) 0 < pair number (class * 2 ^ 32)) where
  inside : r ≤ length xs
  inside = omega (arith, bound_inside (pair number (4 * 2 ^ 32)) xs)

  own : (number_in (get_or xs (r - 1) 0) ≡ number) × (class ≤ which_in (get_or xs (r - 1) 0)) × (which_in (get_or xs (r - 1) 0) ≤ 3)
  own = between number class (get_or xs (r - 1) 0) from (bound_before (pair number (4 * 2 ^ 32)) xs s (r - 1) (omega arith)) most

  -- none from r on
  after : (d : ℕ) → d ≤ 3 → (k : ℕ) → r ≤ k → k < length xs → is_for d number (get_or xs k 0) ≡ false
  unfolding pair
  after d h k a l = not_for d number (get_or xs k 0) (λ t.
      absurd (omega (arith, bound_past (pair number (4 * 2 ^ 32)) xs s k (omega arith) l, for_below d number (get_or xs k 0) t)))

  -- none before r - 1
  before : (d : ℕ) → class ≤ d → (k : ℕ) → k < r - 1 → is_for d number (get_or xs k 0) ≡ false
  unfolding pair Sorted
  before d h k a = not_for d number (get_or xs k 0) (λ t.
      absurd (omega (arith, s k (r - 2) (omega arith) (omega (arith, inside)), past (omega arith), for_from d number (get_or xs k 0) t)))

  -- of another class there is none, of its own it is the last
  other : (d : ℕ) → class ≤ d → d ≤ 3 → (which_in (get_or xs (r - 1) 0) ≡ d → ⊥) → last_place d number xs ≡ None
  other d a b n = last_none d number xs (λ k l. less_or_not k (r - 1)
      (λ t. before d a k t)
      (λ t. same_or_not k (r - 1)
      (λ e. not_for d number (get_or xs k 0) (λ y. n (ap (λ (i : ℕ). which_in (get_or xs i 0)) (sym e) ∙ (for_parts d number (get_or xs k 0) y).1)))
      (λ e. after d b k (omega arith) l)))

  same : (d : ℕ) → d ≤ 3 → which_in (get_or xs (r - 1) 0) ≡ d → last_place d number xs ≡ Some (place_in (get_or xs (r - 1) 0))
  same d b e = last_here d number xs (r - 1) (omega (arith, inside)) (parts_for d number (get_or xs (r - 1) 0) own.0 e) (λ k a l. after d b k (omega arith) l)

  pub alone_latest : latest class number xs ≡ Some (place_in (get_or xs (r - 1) 0))
  unfolding latest
  alone_latest = same_or_not class 3
      (λ e. rw (eq-eqb class 3 e) (same 3 (omega arith) (omega (arith, own))))
      (λ n. rw (ne_eqb class 3 n) (same_or_not class 2
      (λ e. rw (eq-eqb class 2 e) (upper (omega arith) (omega (arith, own))))
      (λ m. rw (ne_eqb class 2 m) (lower (omega arith)))))
    where
      x : ℕ
      x = which_in (get_or xs (r - 1) 0)

      upper : class ≤ 2 → 2 ≤ x → later (last_place 2 number xs) (last_place 3 number xs) ≡ Some (place_in (get_or xs (r - 1) 0))
      upper h l = same_or_not x 2
          (λ e. ap₂ later (same 2 (omega arith) e) (other 3 (omega arith) (omega arith) (λ d. absurd (omega arith))) ∙ (unfold later in refl))
          (λ e. ap₂ later (other 2 h (omega arith) e) (same 3 (omega arith) (omega (arith, own))) ∙ (unfold later in refl))

      lower : class ≡ 1 → later (last_place 1 number xs) (later (last_place 2 number xs) (last_place 3 number xs)) ≡ Some (place_in (get_or xs (r - 1) 0))
      lower o = same_or_not x 1
          (λ e. ap₂ later (same 1 (omega arith) e) (ap₂ later (other 2 (omega arith) (omega arith) (λ d. absurd (omega arith))) (other 3 (omega arith) (omega arith) (λ d. absurd (omega arith)))) ∙ (unfold later in refl))
          (λ e. ap₂ later (other 1 (omega arith) (omega arith) e) (upper (omega arith) (omega (arith, own))) ∙ (unfold later in refl))

-- by the words
pub alone_found : (class number : ℕ) → 1 ≤ class → class ≤ 3 → (w : List ℕ) (n r : ℕ) → Sorted (pairs_of w n) → r ≡ count_below (pair number (4 * 2 ^ 32)) (pairs_of w n) → r ≤ n
    → Alone class number w r → Some (get_or w (2 * (r - 1) + 1) 0 % 2 ^ 32) ≡ latest class number (pairs_of w n)
alone_found class number l m w n r s c h a =
    let z = a.some in
    ap Some (sym (place_second w n (r - 1) (omega arith)))
    ∙ sym (alone_latest class number l m (pairs_of w n) s r c z (rw (pairs_at w n (r - 1) (omega arith)) a.from) (λ y. rw (pairs_at w n (r - 2) (omega arith)) (a.past y)))
