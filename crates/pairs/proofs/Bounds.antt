-- The laws of `count_below` and `has`.
use Prim.Native.Nat.{ℕ, zero, suc, ◌+◌, ◌≤◌, ◌<◌, zero-le, suc-le-suc}
use mathlib.Core.Path.{◌≡◌, refl, sym, ap, ◌∙◌}
use mathlib.Core.Bool.{true, false, ◌||◌, or_assoc}
use mathlib.Core.Logic.{⊎_elim}
use mathlib.Core.List.{List, [], ◌∷◌, ◌++◌}
use native.Mathlib.Nat.{zero-add, le_trans, le_antisymm, le_of_suc-le-suc, lt_of_le_of_lt, not-suc-le-zero}
use native.Mathlib.Omega.{arith}
use lib.ListN.{length, get_or}
use lib.Dec.{ltb, eqb}
use borrow.Author.Tests.{lt-ltb, le-ltb}
use Rattle.pairs.specs.Pairs.{sort, Sorted, has, count_below}
use Rattle.pairs.specs.Counts.{count, Permuted}
use Rattle.pairs.proofs.Order.{tested, less_or_not, there, each, sort_permuted}

-- ---- countBelow
bound_most : (x : ℕ) (xs : List ℕ) (r : ℕ) → ((k : ℕ) → r ≤ k → k < length xs → x ≤ get_or xs k 0) → count_below x xs ≤ r
unfolding count_below
bound_most x [] r h = zero-le
bound_most x (y ∷ ys) zero h =
    let m = bound_most x ys 0 (λ k a l. h (suc k) zero-le (suc-le-suc l)) in
    rw (le-ltb y x (h zero zero-le (suc-le-suc zero-le))) (omega arith)
bound_most x (y ∷ ys) (suc r) h =
    let m = bound_most x ys r (λ k a l. h (suc k) (suc-le-suc a) (suc-le-suc l)) in
    ⊎_elim (λ t. rw t (omega arith)) (λ t. rw t (omega arith)) (tested (ltb y x))

bound_least : (x : ℕ) (xs : List ℕ) (r : ℕ) → r ≤ length xs → ((k : ℕ) → k < r → get_or xs k 0 < x) → r ≤ count_below x xs
unfolding count_below
bound_least x xs zero l h = zero-le
bound_least x [] (suc r) l h = absurd (not-suc-le-zero l)
bound_least x (y ∷ ys) (suc r) l h =
    let m = bound_least x ys r (le_of_suc-le-suc l) (λ k a. h (suc k) (suc-le-suc a)) in
    rw (lt-ltb y x (h zero (suc-le-suc zero-le))) (omega arith)

-- the place where the numbers of a list pass x
pub bound_is : (x : ℕ) (xs : List ℕ) (r : ℕ) → r ≤ length xs → ((k : ℕ) → k < r → get_or xs k 0 < x) → ((k : ℕ) → r ≤ k → k < length xs → x ≤ get_or xs k 0) → r ≡ count_below x xs
bound_is x xs r l b p = le_antisymm (bound_least x xs r l b) (bound_most x xs r p)

pub bound_inside : (x : ℕ) (xs : List ℕ) → count_below x xs ≤ length xs
bound_inside x xs = bound_most x xs (length xs) (λ k a l. absurd (omega arith))

-- in a sorted list each number before that place is below x, and none from there on is
pub bound_before : (x : ℕ) (xs : List ℕ) → Sorted xs → (k : ℕ) → k < count_below x xs → get_or xs k 0 < x
unfolding Sorted
bound_before x xs s k h = less_or_not (get_or xs k 0) x (λ t. t) (λ t. absurd (let m = bound_most x xs k (λ j a l. le_trans t (s k j a l)) in omega arith))

pub bound_past : (x : ℕ) (xs : List ℕ) → Sorted xs → (k : ℕ) → count_below x xs ≤ k → k < length xs → x ≤ get_or xs k 0
unfolding Sorted
bound_past x xs s k h l =
    less_or_not (get_or xs k 0) x (λ t. absurd (let m = bound_least x xs (suc k) l (λ j a. lt_of_le_of_lt (s j k (le_of_suc-le-suc a) l) t) in omega arith)) (λ t. t)

-- ---- has
has_counted : (x : ℕ) (xs : List ℕ) → has x xs ≡ ltb 0 (count x xs)
unfolding has count
has_counted x [] = refl
has_counted x (y ∷ ys) = ⊎_elim
    (λ t. rw t (sym (lt-ltb 0 (1 + count x ys) (omega arith))))
    (λ t. rw t (has_counted x ys ∙ ap (ltb 0) (sym (zero-add (count x ys)))))
    (tested (eqb x y))

-- one list after another
pub has_append : (x : ℕ) (xs ys : List ℕ) → has x (xs ++ ys) ≡ has x xs || has x ys
unfolding has
has_append x [] ys = refl
has_append x (y ∷ xs) ys = rw (has_append x xs ys) (sym (or_assoc (eqb x y) (has x xs) (has x ys)))

-- a list sorted has the same numbers
pub has_sort : (x : ℕ) (xs : List ℕ) → has x (sort xs) ≡ has x xs
unfolding Permuted
has_sort x xs = rw (has_counted x (sort xs), has_counted x xs, sort_permuted xs x)

-- a list has the number at a place, and no number that is at none
pub has_at : (x : ℕ) (xs : List ℕ) (k : ℕ) → k < length xs → get_or xs k 0 ≡ x → has x xs ≡ true
has_at x xs k l e = has_counted x xs ∙ lt-ltb 0 (count x xs) (rw (← e) (there xs k l))

pub has_none : (x : ℕ) (xs : List ℕ) → ((k : ℕ) → k < length xs → get_or xs k 0 ≡ x → ⊥) → has x xs ≡ false
has_none x xs h = has_counted x xs ∙ less_or_not 0 (count x xs) (λ t. absurd (each (λ y. y ≡ x → ⊥) xs h x t refl)) (λ t. le-ltb 0 (count x xs) t)

-- a sorted list has x only at the place where the numbers pass x
pub has_bound : (x : ℕ) (xs : List ℕ) (r : ℕ) → Sorted xs → r ≡ count_below x xs → (r < length xs → get_or xs r 0 ≡ x → ⊥) → has x xs ≡ false
unfolding Sorted
has_bound x xs r s c h = has_none x xs (λ k l e.
    let a : r ≤ k = less_or_not k r (λ t. absurd (let b = bound_before x xs s k (omega arith) in omega arith)) (λ t. t) in
    let i : r < length xs = omega arith in
    h i (omega (arith, s r k a l, bound_past x xs s r (omega arith) i)))
