-- Laws of pairs of numbers and places, as plain lists: their parts, what is kept of them, the last of a number.
use Rattle.std.specs.Prelude.{None, Option, Some}
use Prim.Native.Nat.{ℕ, zero, suc, ◌+◌, ◌-◌, ◌*◌, ◌^◌, ◌≤◌, ◌<◌, zero-le, suc-le-suc}
use mathlib.Core.Path.{◌≡◌, refl, sym, ap, ◌∙◌}
use mathlib.Core.Bool.{Bool, true, false, true≢false, cond, ◌&&◌}
use mathlib.Core.Logic.{⊎_elim}
use mathlib.Core.List.{List, [], ◌∷◌, ◌++◌}
use native.Mathlib.Nat.{le_trans, le_of_suc-le-suc, not-suc-le-zero}
use native.Mathlib.Omega.{arith}
use lib.ListN.{length, get_or}
use lib.Dec.{eqb}
use borrow.Author.Tests.{eq-eqb, ne_eqb, eqb-true}
use Rattle.findings.specs.Findings.{keep}
use Rattle.pairs.specs.Pairs.{pair, sort, Sorted, count_below, or_else}
use Rattle.pairs.specs.Counts.{count, Permuted}
use Rattle.pairs.proofs.Order.{tested, both_true, same_or_not, less_or_not, there, each, sorted_tail, sorted_cons, sorted_least, sort_permuted, sort_sorted, sorted_unique}
use Rattle.pairs.proofs.Bounds.{bound_inside, bound_before, bound_past}
use Rattle.maps.specs.Places.{place_pair, number_in, which_in, place_in, is_for, last_place}

-- ---- the parts of a pair
module _ (which number place : ℕ) (w : which < 2 ^ 32) (p : place < 2 ^ 32) where
  pub number_part : number_in (place_pair which number place) ≡ number
  unfolding place_pair number_in pair
  number_part = omega arith

  pub which_part : which_in (place_pair which number place) ≡ which
  unfolding place_pair which_in pair
  which_part = omega arith

  pub place_part : place_in (place_pair which number place) ≡ place
  unfolding place_pair place_in pair
  place_part = omega arith

  pub place_for : is_for which number (place_pair which number place) ≡ true
  unfolding is_for
  place_for = rw (eq-eqb (number_in (place_pair which number place)) number number_part, eq-eqb (which_in (place_pair which number place)) which which_part)

-- ---- the pairs of a map with a number lie between two bounds
module _ (which number v : ℕ) where
  pub for_parts : is_for which number v ≡ true → (number_in v ≡ number) × (which_in v ≡ which)
  unfolding is_for
  for_parts e =
      let both = both_true (eqb (number_in v) number) (eqb (which_in v) which) e in
      (eqb-true (number_in v) number both.0, eqb-true (which_in v) which both.1)

  pub parts_for : number_in v ≡ number → which_in v ≡ which → is_for which number v ≡ true
  unfolding is_for
  parts_for a b = rw (eq-eqb (number_in v) number a, eq-eqb (which_in v) which b)

  -- between them, and only there
  pub for_from : is_for which number v ≡ true → pair number (which * 2 ^ 32) ≤ v
  unfolding number_in which_in pair
  for_from e = omega (arith, for_parts e)

  pub for_below : is_for which number v ≡ true → v < pair number ((which + 1) * 2 ^ 32)
  unfolding number_in which_in pair
  for_below e = omega (arith, for_parts e)

  pub between_for : which < 2 ^ 32 → pair number (which * 2 ^ 32) ≤ v → v < pair number ((which + 1) * 2 ^ 32) → is_for which number v ≡ true
  unfolding number_in which_in pair
  between_for w a b = parts_for (omega arith) (omega arith)

  -- so not outside them
  pub not_for : (is_for which number v ≡ true → ⊥) → is_for which number v ≡ false
  not_for h = ⊎_elim (λ t. absurd (h t)) (λ t. t) (tested (is_for which number v))

-- ---- what a test keeps of two lists, one after the other
pub keep_append : {A : Type 0} (test : A → Bool) (xs ys : List A) → keep test (xs ++ ys) ≡ keep test xs ++ keep test ys
unfolding keep
keep_append test [] ys = refl
keep_append {A} test (x ∷ xs) ys =
    ⊎_elim (λ t. rw t (ap (λ (l : List A). x ∷ l) (keep_append test xs ys))) (λ t. rw t (keep_append test xs ys)) (tested (test x))

-- ---- what a test keeps of a list of numbers
module _ (test : ℕ → Bool) where
  count_cons : (t : Bool) (y x : ℕ) (xs : List ℕ) → count y (cond t (x ∷ xs) xs) ≡ cond t (cond (eqb y x) 1 0) 0 + count y xs
  unfolding count
  count_cons true y x xs = refl
  count_cons false y x xs = omega arith

  none_more : (a b : Bool) (n : ℕ) → cond {A = ℕ} a 0 0 + cond b n 0 ≡ cond b (0 + n) 0
  none_more true true n = refl
  none_more true false n = refl
  none_more false true n = refl
  none_more false false n = refl

  some_more : (a b : Bool) (n : ℕ) → a ≡ b → cond {A = ℕ} a (cond true 1 0) 0 + cond b n 0 ≡ cond b (cond true 1 0 + n) 0
  some_more true true n e = refl
  some_more true false n e = absurd (true≢false e)
  some_more false true n e = absurd (true≢false (sym e))
  some_more false false n e = refl

  count_keep : (y : ℕ) (xs : List ℕ) → count y (keep test xs) ≡ cond (test y) (count y xs) 0
  unfolding keep count
  count_keep y [] = ⊎_elim (λ t. rw t) (λ t. rw t) (tested (test y))
  count_keep y (x ∷ xs) =
      count_cons (test x) y x (keep test xs) ∙ ap (λ (n : ℕ). cond (test x) (cond (eqb y x) 1 0) 0 + n) (count_keep y xs)
      ∙ same_or_not y x
      (λ e. rw (eq-eqb y x e) (some_more (test x) (test y) (count y xs) (ap test (sym e))))
      (λ d. rw (ne_eqb y x d) (none_more (test x) (test y) (count y xs)))

  -- a number that passes is kept, and what is kept was there
  pub kept_there : (y : ℕ) (xs : List ℕ) → test y ≡ true → 0 < count y xs → 0 < count y (keep test xs)
  kept_there y xs t h = rw (count_keep y xs, t) h

  pub was_there : (y : ℕ) (xs : List ℕ) → 0 < count y (keep test xs) → 0 < count y xs
  was_there y xs h = by (test y) (count y xs) (rw (count_keep y xs) at h)
    where
      by : (t : Bool) (n : ℕ) → 0 < cond t n 0 → 0 < n
      by true n h = h
      by false n h = absurd (not-suc-le-zero h)

  keep_sorted : (xs : List ℕ) → Sorted xs → Sorted (keep test xs)
  unfolding keep
  keep_sorted [] s = s
  keep_sorted (x ∷ xs) s =
      let rest = keep_sorted xs (sorted_tail x xs s) in
      ⊎_elim
      (λ t. rw t (sorted_cons x (keep test xs) (λ k l. each (λ v. x ≤ v) xs (sorted_least x xs s) (get_or (keep test xs) k 0) (was_there _ xs (there (keep test xs) k l))) rest))
      (λ t. rw t rest)
      (tested (test x))

  -- of a list sorted a test keeps what it keeps of the list, where that is in order
  pub keep_sort : (xs : List ℕ) → Sorted (keep test xs) → keep test (sort xs) ≡ keep test xs
  unfolding Permuted
  keep_sort xs s = sorted_unique (keep test (sort xs)) (keep test xs) (keep_sorted (sort xs) (sort_sorted xs)) s
      (λ y. rw (count_keep y (sort xs), count_keep y xs, sort_permuted xs y))

-- a map's pairs with a number are those with the number among those of the map
pub keep_parts : (which number : ℕ) (xs : List ℕ) → keep (is_for which number) xs ≡ keep (λ v. eqb (number_in v) number) (keep (λ v. eqb (which_in v) which) xs)
unfolding keep is_for
keep_parts which number [] = refl
keep_parts which number (x ∷ xs) = by (eqb (number_in x) number) (eqb (which_in x) which) refl (keep (is_for which number) xs) (keep (λ v. eqb (which_in v) which) xs) (keep_parts which number xs)
  where
    by : (a b : Bool) → eqb (number_in x) number ≡ a → (ys zs : List ℕ) → ys ≡ keep (λ v. eqb (number_in v) number) zs
        → cond (a && b) (x ∷ ys) ys ≡ keep (λ v. eqb (number_in v) number) (cond b (x ∷ zs) zs)
    by true true e ys zs same = rw e (ap (λ (l : List ℕ). x ∷ l) same)
    by true false e ys zs same = same
    by false true e ys zs same = rw e same
    by false false e ys zs same = same

-- ---- the last pair of a map with a number
module _ (which number : ℕ) where
  -- there is none
  pub last_none : (xs : List ℕ) → ((k : ℕ) → k < length xs → is_for which number (get_or xs k 0) ≡ false) → last_place which number xs ≡ None
  unfolding last_place or_else
  last_none [] h = refl
  last_none (x ∷ xs) h = rw (last_none xs (λ k l. h (suc k) (suc-le-suc l)), h zero (suc-le-suc zero-le))

  -- the one at j, where none comes after it
  pub last_here : (xs : List ℕ) (j : ℕ) → j < length xs → is_for which number (get_or xs j 0) ≡ true
      → ((k : ℕ) → j < k → k < length xs → is_for which number (get_or xs k 0) ≡ false) → last_place which number xs ≡ Some (place_in (get_or xs j 0))
  unfolding last_place or_else
  last_here [] j l e h = absurd (not-suc-le-zero l)
  last_here (x ∷ xs) zero l e h = rw (last_none xs (λ k l. h (suc k) (suc-le-suc zero-le) (suc-le-suc l)), e)
  last_here (x ∷ xs) (suc j) l e h = rw (last_here xs j (le_of_suc-le-suc l) e (λ k a b. h (suc k) (suc-le-suc a) (suc-le-suc b)))

  or_absent : (a : Option ℕ) → or_else a None ≡ a
  unfolding or_else
  or_absent (Some x) = refl
  or_absent None = refl

  -- a pair that is not one of them is passed over
  pub last_past : (x : ℕ) (xs : List ℕ) → is_for which number x ≡ false → last_place which number (x ∷ xs) ≡ last_place which number xs
  unfolding last_place
  last_past x xs e = rw e (or_absent (last_place which number xs))

  -- it is among those of the map with the number
  pub last_kept : (xs : List ℕ) → last_place which number (keep (is_for which number) xs) ≡ last_place which number xs
  unfolding keep last_place
  last_kept [] = refl
  last_kept (x ∷ xs) = ⊎_elim
      (λ t. rw t (rw t (ap (λ (m : Option ℕ). or_else m (Some (place_in x))) (last_kept xs))))
      (λ t. rw t (last_kept xs ∙ sym (or_absent (last_place which number xs))))
      (tested (is_for which number x))

  -- what holds of the place of each of them holds of the last's
  pub last_holds : (P : ℕ → Type 0) (xs : List ℕ) → ((y : ℕ) → 0 < count y xs → is_for which number y ≡ true → P (place_in y))
      → (q : ℕ) → last_place which number xs ≡ Some q → P q
  unfolding last_place or_else count
  last_holds P [] h q e = let z : ◌≡◌ {A = ℕ} 0 1 = cc in absurd (omega arith)
  last_holds P (x ∷ xs) h q e = by (last_place which number xs) refl (last_holds P xs (λ y c. h y (omega arith)) q)
    where
      here : (b : Bool) → is_for which number x ≡ b → cond b (Some (place_in x)) None ≡ Some q → P q
      here true t e = let same : place_in x ≡ q = cc in rw (← same) (h x (rw (eq-eqb x x refl) (omega arith)) t)
      here false t e = let z : ◌≡◌ {A = ℕ} 0 1 = cc in absurd (omega arith)

      by : (m : Option ℕ) → last_place which number xs ≡ m → (last_place which number xs ≡ Some q → P q) → P q
      by (Some v) t later = later (rw t (rw t at e))
      by None t later = here (is_for which number x) refl (rw t at e)

-- ---- in sorted pairs the one before the place where they pass a map's pairs with a number settles it
module _ (which number : ℕ) (small : which < 2 ^ 32) (xs : List ℕ) (r : ℕ) (s : Sorted xs) (c : r ≡ count_below (pair number ((which + 1) * 2 ^ 32)) xs) where
  past : (k : ℕ) → r ≤ k → k < length xs → is_for which number (get_or xs k 0) ≡ false
  past k a l = not_for which number (get_or xs k 0) (λ t.
      absurd (omega (arith, bound_past (pair number ((which + 1) * 2 ^ 32)) xs s k (omega arith) l, for_below which number (get_or xs k 0) t)))

  inside : 0 < r → r - 1 < length xs
  inside z = omega (arith, bound_inside (pair number ((which + 1) * 2 ^ 32)) xs)

  pub last_bound : 0 < r → is_for which number (get_or xs (r - 1) 0) ≡ true → last_place which number xs ≡ Some (place_in (get_or xs (r - 1) 0))
  last_bound z e = last_here which number xs (r - 1) (inside z) e (λ k a l. past k (omega arith) l)

  pub none_bound : (0 < r → is_for which number (get_or xs (r - 1) 0) ≡ true → ⊥) → last_place which number xs ≡ None
  unfolding Sorted
  none_bound h = last_none which number xs (λ k l. less_or_not k r
      (λ b. not_for which number (get_or xs k 0) (λ t.
      let z : 0 < r = omega arith in
      h z (between_for which number (get_or xs (r - 1) 0) small
      (le_trans (for_from which number (get_or xs k 0) t) (s k (r - 1) (omega arith) (inside z)))
      (bound_before (pair number ((which + 1) * 2 ^ 32)) xs s (r - 1) (omega arith)))))
      (λ b. past k b l))
