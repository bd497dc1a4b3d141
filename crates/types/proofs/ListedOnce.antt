-- The table lists each btree once, and each type once in a row and those anywhere together: one computed test.
use Prim.Native.Nat.{ℕ, ◌≤◌}
use mathlib.Core.Path.{◌≡◌, refl, sym, ap, subst, ◌∙◌}
use mathlib.Core.Bool.{Bool, true, false, not, ◌&&◌, ◌||◌}
use mathlib.Core.List.{List, [], ◌∷◌, ◌++◌, map, Memᴰ}
use native.Mathlib.Omega.{arith}
use lib.Dec.{eqb}
use borrow.Author.Tests.{eq-eqb, ne_eqb, not-true}
use Rattle.pairs.specs.Counts.{count}
use Rattle.pairs.specs.Pairs.{has}
use Rattle.pairs.proofs.Order.{both_true, both_false, same_or_not}
use Rattle.pairs.proofs.Bounds.{has_append}
use Rattle.types.specs.CheckKeyType.{key_types_anywhere, key_types_allowed}
use Rattle.types.specs.ListedOnce.{ListedOnce}

-- no number stands twice in a list
none_twice : List ℕ → Bool
none_twice [] = true
none_twice (x ∷ xs) = not (has x xs) && none_twice xs

absent_count : (x : ℕ) (xs : List ℕ) → has x xs ≡ false → count x xs ≡ 0
unfolding has count
absent_count x [] e = refl
absent_count x (y ∷ ys) e =
    let both = both_false (eqb x y) (has x ys) e in
    rw (both.0, absent_count x ys both.1) refl

once : (x : ℕ) (xs : List ℕ) → none_twice xs ≡ true → count x xs ≤ 1
unfolding none_twice count
once x [] e = omega arith
once x (y ∷ ys) e =
    let both = both_true (not (has y ys)) (none_twice ys) e in
    same_or_not x y
    (λ same. rw (eq-eqb x y same) (omega (arith, ap (λ (z : ℕ). count z ys) same, absent_count y ys (not-true (has y ys) both.0))))
    (λ other. rw (ne_eqb x y other) (omega (arith, once x ys both.1)))

-- of two lists, one after the other
front_count : (x : ℕ) (xs ys : List ℕ) → count x xs ≤ count x (xs ++ ys)
unfolding count
front_count x [] ys = omega arith
front_count x (z ∷ xs) ys = omega (arith, front_count x xs ys)

front_apart : (x : ℕ) (xs ys : List ℕ) → none_twice (xs ++ ys) ≡ true → has x xs ≡ true → has x ys ≡ false
unfolding none_twice has
front_apart x [] ys e h = cc
front_apart x (z ∷ xs) ys e h =
    let both = both_true (not (has z (xs ++ ys))) (none_twice (xs ++ ys)) e in
    same_or_not x z
    (λ same. rw same (both_false (has z xs) (has z ys) (sym (has_append z xs ys) ∙ not-true (has z (xs ++ ys)) both.0)).1)
    (λ other. front_apart x xs ys both.1 (subst (λ (test : Bool). test || has x xs ≡ true) (ne_eqb x z other) h))

-- ---- the table

each_once : List (ℕ × List ℕ) → List ℕ → Bool
each_once [] anywhere = true
each_once (row ∷ rows) anywhere = none_twice (row.1 ++ anywhere) && each_once rows anywhere

row_once : (row : ℕ × List ℕ) (rows : List (ℕ × List ℕ)) (anywhere : List ℕ) → each_once rows anywhere ≡ true → Memᴰ row rows
    → none_twice (row.1 ++ anywhere) ≡ true
unfolding each_once
row_once row [] anywhere e m = elim m [ ]
row_once row (r ∷ rs) anywhere e (Memᴰ.head h) = rw h (both_true (none_twice (r.1 ++ anywhere)) (each_once rs anywhere) e).0
row_once row (r ∷ rs) anywhere e (Memᴰ.tail m) = row_once row rs anywhere (both_true (none_twice (r.1 ++ anywhere)) (each_once rs anywhere) e).1 m

all_once : List (ℕ × List ℕ) → List ℕ → Bool
all_once rows anywhere = none_twice (map (λ (row : ℕ × List ℕ). row.0) rows) && each_once rows anywhere

-- any table that passes the test
once_listed : (rows : List (ℕ × List ℕ)) (anywhere : List ℕ) → all_once rows anywhere ≡ true → ListedOnce rows anywhere
unfolding all_once
once_listed rows anywhere e =
    let both = both_true (none_twice (map (λ (row : ℕ × List ℕ). row.0) rows)) (each_once rows anywhere) e in
    record {
      btrees = λ b. once b (map (λ (row : ℕ × List ℕ). row.0) rows) both.0;
      types = λ row m t. omega (arith, front_count t row.1 anywhere, once t (row.1 ++ anywhere) (row_once row rows anywhere both.1 m));
      apart = λ row m t. front_apart t row.1 anywhere (row_once row rows anywhere both.1 m);
    }

table_once : all_once key_types_allowed key_types_anywhere ≡ true
unfolding all_once each_once none_twice has key_types_allowed key_types_anywhere
table_once = refl

-- THE CLAIM
pub listed_once : ListedOnce key_types_allowed key_types_anywhere
listed_once = once_listed key_types_allowed key_types_anywhere table_once
