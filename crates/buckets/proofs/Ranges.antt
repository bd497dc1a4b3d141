-- The alloc entries of a stretch of buckets stand together in a table that rises.
use Rattle.std.specs.Prelude.{Option}
use Prim.Native.Nat.{ℕ, zero, suc, ◌+◌, ◌-◌, ◌*◌, ◌≤◌, ◌<◌, zero-le, suc-le-suc}
use mathlib.Core.Path.{◌≡◌, refl, sym, ap, ap₂, ◌∙◌}
use mathlib.Core.Bool.{Bool, true, false, cond, ◌&&◌}
use mathlib.Core.List.{List, [], ◌∷◌}
use native.Mathlib.Omega.{arith}
use native.Mathlib.Nat.{le_trans}
use lib.ListN.{length}
use lib.Dec.{leb, ltb}
use borrow.Author.Tests.{le-leb, lt-leb, lt-ltb, le-ltb, ltb-true}
use Rattle.pairs.proofs.Order.{less_or_not}
use Rattle.book.specs.declared.Header.{Header}
use Rattle.book.specs.declared.Places.{Places}
use Rattle.book.specs.Maps.{lower_bound}
use Rattle.book.specs.Book.{data_type_of, alloc_table, table_from, alloc_from, entry_at, book_of}
use Rattle.book.specs.Walk.{Opened, Rising}
use Rattle.book.proofs.Tables.{length_table, entries_step, entries_none}
use Rattle.book.proofs.Walk.{parts}
use Rattle.buckets.specs.declared.Range.{Range}
use Rattle.buckets.specs.FreeSpace.{alloc_range}
use Rattle.buckets.specs.Steps.{range_of, Below}

-- ---- the bound of a number in a map
module _ {A : Type 0} where
  pub bound_inside : (x : ℕ) (m : List (ℕ × A)) → lower_bound x m ≤ length m
  unfolding lower_bound
  bound_inside x [] = zero-le
  bound_inside x (e ∷ m) = less_or_not e.0 x
      (λ t. rw (lt-ltb e.0 x t) (suc-le-suc (bound_inside x m)))
      (λ t. rw (le-ltb e.0 x t) zero-le)

  pub bound_grows : {x y : ℕ} → x ≤ y → (m : List (ℕ × A)) → lower_bound x m ≤ lower_bound y m
  unfolding lower_bound
  bound_grows h [] = zero-le
  bound_grows {x} {y} h (e ∷ m) = less_or_not e.0 x
      (λ t. rw (lt-ltb e.0 x t, lt-ltb e.0 y (le_trans t h)) (suc-le-suc (bound_grows h m)))
      (λ t. rw (le-ltb e.0 x t) zero-le)

-- ---- the entries between two bounds

module _ (s : List ℕ) where
  -- the bucket of the entry at byte p
  abbrev bucket_at : ℕ → ℕ
  bucket_at p = (entry_at alloc_table s p).first

  -- the entries after the first rise too, and the next of them is above it
  rest_rises : (n p : ℕ) → Rising alloc_table s p (suc n) → Rising alloc_table s (p + 10) n
  rest_rises n p r = record {
    inside = omega (arith, r.inside);
    rises = λ i j l h.
        let place : (k : ℕ) → (p + 10) + k * 10 ≡ p + suc k * 10 = λ k. omega arith in
        omega (arith, r.rises (suc i) (suc j) (suc-le-suc l) (suc-le-suc h), ap bucket_at (place i), ap bucket_at (place j));
  }

  rest_bound : (n p x : ℕ) → Rising alloc_table s p (suc n) → x ≤ bucket_at p → lower_bound x (alloc_from s n (p + 10)) ≡ 0
  unfolding lower_bound table_from
  rest_bound zero p x r h = refl
  rest_bound (suc n) p x r h =
      let here : p + 0 * 10 ≡ p = omega arith in
      let next : p + 1 * 10 ≡ p + 10 = omega arith in
      rw (le-ltb (bucket_at (p + 10)) x (omega (arith, r.rises 0 1 (omega arith) (omega arith), ap bucket_at here, ap bucket_at next)))

  module _ {a e : ℕ} (order : a ≤ e) where
    range_table : (n p : ℕ) → Rising alloc_table s p n
        → alloc_range a e (alloc_from s n p) ≡ alloc_from s (lower_bound e (alloc_from s n p) - lower_bound a (alloc_from s n p)) (p + lower_bound a (alloc_from s n p) * 10)
    unfolding alloc_range lower_bound table_from
    range_table zero p r = refl
    range_table (suc n) p r =
        let x = bucket_at p in
        let xs = alloc_from s n (p + 10) in
        let low = lower_bound a xs in
        let high = lower_bound e xs in
        let more : alloc_range a e xs ≡ alloc_from s (high - low) ((p + 10) + low * 10) = range_table n (p + 10) (rest_rises n p r) in
        less_or_not x a
        (λ t.
        let count : high - low ≡ suc high - suc low = omega arith in
        let place : (p + 10) + low * 10 ≡ p + suc low * 10 = omega arith in
        rw (lt-leb a x t, lt-ltb x a t, lt-ltb x e (le_trans t order)) (more ∙ ap₂ (alloc_from s) count place))
        (λ t.
        let none : low ≡ 0 = rest_bound n p a r t in
        less_or_not x e
        (λ u.
        let count : high - low ≡ high = omega arith in
        let place : (p + 10) + low * 10 ≡ p + 10 = omega arith in
        let all : suc high ≡ suc high - 0 = omega arith in
        let here : p ≡ p + 0 * 10 = omega arith in
        rw (le-leb a x t, le-ltb x a t, lt-ltb x e u)
        (ap (λ (l : List (ℕ × Option ℕ)). (x, data_type_of (entry_at alloc_table s p).rest) ∷ l) (more ∙ ap₂ (alloc_from s) count place) ∙ ap₂ (alloc_from s) all here))
        (λ u.
        let none-either : high ≡ 0 = rest_bound n p e r u in
        rw (le-leb a x t, le-ltb x a t, le-ltb x e u) (more ∙ entries_none data_type_of alloc_table s ((p + 10) + low * 10) {n = high - low} (omega arith) ∙ sym (entries_none data_type_of alloc_table s (p + 0 * 10) {n = 0 - 0} (omega arith)))))

-- a stretch of buckets holds buckets below its end
below_cond : (e : ℕ) (x : ℕ × Option ℕ) (xs : List (ℕ × Option ℕ)) (b c : Bool) → (c ≡ true → x.0 < e) → Below e xs → Below e (cond (b && c) (x ∷ xs) xs)
unfolding Below
below_cond e x xs true true h t = (h refl, t)
below_cond e x xs true false h t = t
below_cond e x xs false c h t = t

below_range : (a e : ℕ) (xs : List (ℕ × Option ℕ)) → Below e (alloc_range a e xs)
unfolding alloc_range
below_range a e [] = unfold Below in tt
below_range a e (x ∷ xs) = below_cond e x (alloc_range a e xs) (leb a x.0) (ltb x.0 e) (ltb-true x.0 e) (below_range a e xs)

-- of entries below e the first is, and the others are
pub below_step : (e n p : ℕ) (s : List ℕ) → 0 < n → Below e (alloc_from s n p) → ((entry_at alloc_table s p).first < e) × Below e (alloc_from s (n - 1) (p + 10))
unfolding Below
below_step e n p s h b = rw (entries_step data_type_of alloc_table s n p h) at b

-- ---- the entries of a book's alloc table

-- no bound is past them
pub alloc_bound : {s : List ℕ} {h : Header} {at : Places} → Opened s h at → (x : ℕ) → lower_bound x (book_of s).alloc ≤ h.alloc
alloc_bound {s} {h} {at} o x = rw (parts o).alloc (omega (arith, bound_inside x (alloc_from s h.alloc at.alloc), length_table data_type_of alloc_table s h.alloc at.alloc))

-- those for the buckets from a up to e
module _ {s : List ℕ} {h : Header} {at : Places} (o : Opened s h at) {a e : ℕ} (order : a ≤ e) {q : Range} (is : q ≡ range_of at.alloc (alloc_from s h.alloc at.alloc) a e) where
  pub range_entries : alloc_range a e (book_of s).alloc ≡ alloc_from s q.count q.start
  unfolding range_of
  range_entries = rw ((parts o).alloc, is) (range_table s order h.alloc at.alloc (parts o).alloc_rise)

  pub range_numbered : alloc_range a e (book_of s).alloc ≡ alloc_from s q.count (at.alloc + q.low * 10)
  unfolding range_of
  range_numbered = rw ((parts o).alloc, is) (range_table s order h.alloc at.alloc (parts o).alloc_rise)

  pub range_few : q.low + q.count ≤ h.alloc
  unfolding range_of
  range_few =
      let xs = alloc_from s h.alloc at.alloc in
      rw is (omega (arith, bound_inside e xs, bound_grows order xs, length_table data_type_of alloc_table s h.alloc at.alloc))

  pub range_inside : q.start + q.count * 10 ≤ length s
  unfolding range_of
  range_inside =
      let xs = alloc_from s h.alloc at.alloc in
      rw is (omega (arith, (parts o).alloc_rise.inside, bound_inside e xs, bound_grows order xs, length_table data_type_of alloc_table s h.alloc at.alloc))

  pub range_below : Below e (alloc_from s q.count q.start)
  range_below = rw (← range_entries) (below_range a e (book_of s).alloc)

  pub range_count : q.count ≡ lower_bound e (book_of s).alloc - lower_bound a (book_of s).alloc
  unfolding range_of
  range_count = rw (is, (parts o).alloc)
