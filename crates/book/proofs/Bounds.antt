-- A refusal's number is at most 13, and its place at most 1,048,576: an entry or a key is looked at only where the one
-- before it lies within the book. And which books are refused by 13.
use Prim.Native.Nat.{ℕ, zero, suc, ◌+◌, ◌≤◌, ◌<◌}
use mathlib.Core.Path.{◌≡◌, refl, ap}
use mathlib.Core.Bool.{Bool, true, false, not, ◌&&◌}
use mathlib.Core.Logic.{◌⊎◌, inl, inr}
use mathlib.Core.List.{List}
use native.Mathlib.Omega.{arith}
use borrow.Author.Tests.{ltb-false, eqb-true, not-false, le-ltb}
use lib.ListN.{length}
use lib.Dec.{ltb, eqb}
use Rattle.search.proofs.Bracket.{le_or_lt}
use Rattle.book.specs.declared.Header.{Header}
use Rattle.book.specs.declared.Table.{Table}
use Rattle.std.specs.Prelude.{Result, Ok, Err}
use Rattle.book.specs.Book.{header_of, places_of, words_table, gens_table, alloc_table, key_end, Book, book_of}
use Rattle.book.specs.Refusals.{refuse, ◌then◌, entry_verdict, table_verdict, key_verdict, keys_verdict, parts_verdict, parents_max, header_verdict, book_verdict, Outcome, outcome_of, parse, Verdict, refusal}
use Rattle.book.proofs.Laws.{test_fails, entry_fits, key_fits}
use Rattle.book.proofs.Tables.{table_rises}

-- a refusal by this verdict has a number and a place that are not above these
pub record Bounded (most : ℕ) (v : Verdict) : Type 0 where
  pub bound : (n p : ℕ) → v ≡ Err (refusal n p) → (n ≤ most) × (p ≤ 1048576)

passes : {most : ℕ} → Bounded most (Ok tt)
passes = record { bound = λ n p e. let z : ◌≡◌ {A = ℕ} 0 1 = cc in absurd (omega arith) }

number_in : Verdict → ℕ
number_in (Ok u) = 0
number_in (Err r) = r.number

place_in : Verdict → ℕ
place_in (Ok u) = 0
place_in (Err r) = r.place

refuses : {most : ℕ} (b : Bool) (n p : ℕ) → n ≤ most → p ≤ 1048576 → Bounded most (refuse b n p)
unfolding refuse number_in place_in
refuses true n p h k =
    record { bound = λ m q e. let x : n ≡ m = ap number_in e in let y : p ≡ q = ap place_in e in (omega arith, omega arith) }
refuses false n p h k = passes

untested : {most : ℕ} (b : Bool) (n p : ℕ) → b ≡ false → Bounded most (refuse b n p)
unfolding refuse
untested b n p e = rw e passes

in_turn : {most : ℕ} (v w : Verdict) → Bounded most v → (v ≡ Ok tt → Bounded most w) → Bounded most (v then w)
unfolding ◌then◌
in_turn (Ok u) w h k = k refl
in_turn (Err r) w h k = h

module _ (s : List ℕ) (small : length s ≤ 1048576) where
  entry_bounded : (t : Table) (start p : ℕ) → p ≤ length s → Bounded 8 (entry_verdict t s start p)
  unfolding entry_verdict
  entry_bounded t start p h =
      in_turn _ _ (refuses _ 4 p (omega arith) (omega arith))
      (λ _. in_turn _ _ (refuses _ 5 p (omega arith) (omega arith)) (λ _. refuses _ 6 p (omega arith) (omega arith)))

  table_bounded : (t : Table) (start n p : ℕ) → p ≤ length s → Bounded 8 (table_verdict t s start n p)
  unfolding table_verdict
  table_bounded t start zero p h = passes
  table_bounded t start (suc n) p h = in_turn _ _ (entry_bounded t start p h) (λ e. table_bounded t start n (p + t.size) (entry_fits t s start p e))

  keys_bounded : (trees : Bool) (n p : ℕ) → p ≤ length s → Bounded 8 (keys_verdict trees s n p)
  unfolding keys_verdict key_verdict
  keys_bounded trees zero p h = refuses _ 8 p (omega arith) (omega arith)
  keys_bounded trees (suc n) p h =
      in_turn (key_verdict trees s p) _
      (in_turn _ _ (refuses _ 4 p (omega arith) (omega arith))
      (λ _. in_turn _ _ (refuses _ 5 p (omega arith) (omega arith)) (λ _. refuses _ 7 p (omega arith) (omega arith))))
      (λ e. keys_bounded trees n (key_end s p) (key_fits trees s p e))

  parts_bounded : (h : Header) → 32 ≤ length s → Bounded 8 (parts_verdict s h (places_of h))
  unfolding parts_verdict places_of
  parts_bounded h long =
      in_turn _ _ (table_bounded words_table _ h.parents _ long) (λ a.
      let parents = table_rises words_table s _ _ long a in
      in_turn _ _ (table_bounded words_table _ h.subvolumes _ (omega (arith, parents.inside))) (λ b.
      let subvolumes = table_rises words_table s _ _ (omega (arith, parents.inside)) b in
      in_turn _ _ (table_bounded gens_table _ h.gens _ (omega (arith, subvolumes.inside))) (λ c.
      let gens = table_rises gens_table s _ _ (omega (arith, subvolumes.inside)) c in
      in_turn _ _ (table_bounded alloc_table _ h.alloc _ (omega (arith, gens.inside))) (λ d.
      let alloc = table_rises alloc_table s _ _ (omega (arith, gens.inside)) d in
      keys_bounded h.trees h.keys _ (omega (arith, alloc.inside))))))

header_bounded : (h : Header) → Bounded 13 (header_verdict h)
unfolding header_verdict
header_bounded h =
    in_turn _ _ (refuses _ 3 0 (omega arith) (omega arith)) (λ _.
    in_turn _ _ (refuses _ 12 0 (omega arith) (omega arith)) (λ _. refuses _ 13 0 (omega arith) (omega arith)))

-- a book is refused by no higher number than its header, if that is 8 or more
module _ (s : List ℕ) (most : ℕ) (at_least_lem : 8 ≤ most) where
  by_header : Bounded most (header_verdict (header_of s)) → Bounded most (book_verdict s)
  unfolding book_verdict
  by_header header =
      in_turn _ _ (refuses _ 1 0 (omega arith) (omega arith)) (λ a.
      let small = ltb-false _ _ (test_fails _ _ _ a) in
      in_turn _ _ (refuses _ 2 0 (omega arith) (omega arith)) (λ b.
      let parts = parts_bounded s small (header_of s) (ltb-false _ _ (test_fails _ _ _ b)) in
      in_turn _ _ header (λ _. record { bound = λ n p e. let at = parts.bound n p e in (omega (arith, at.0), at.1) })))

book_bounded : (s : List ℕ) → Bounded 13 (book_verdict s)
book_bounded s = by_header s 13 (omega arith) (header_bounded (header_of s))

and_false : (b : Bool) → b && false ≡ false
and_false true = refl
and_false false = refl

-- 13 is given to no book with the drawn mark, whose parents are not counted, and to none with up to 4,096 entries
few_parents : (h : Header) → (h.drawn ≡ true) ⊎ (h.parents ≤ parents_max) → Bounded 12 (header_verdict h)
unfolding header_verdict
few_parents h which =
    in_turn _ _ (refuses _ 3 0 (omega arith) (omega arith)) (λ _.
    in_turn _ _ (refuses _ 12 0 (omega arith) (omega arith)) (λ e.
    let few = few-of (test_fails _ _ _ e) which in
    untested _ 13 0 (simp (le-ltb parents_max h.parents few, and_false))))
  where
    few-of : h.drawn && not (eqb h.parents 0) ≡ false → (h.drawn ≡ true) ⊎ (h.parents ≤ parents_max) → h.parents ≤ parents_max
    few-of e (inl drawn) =
        let table : not (eqb h.parents 0) ≡ false = rw drawn at e in
        let none : h.parents ≡ 0 = eqb-true _ _ (not-false _ table) in
        omega arith
    few-of e (inr few) = few

-- what a refusal by 13 says of the header
pub counted : (s : List ℕ) {p : ℕ} → book_verdict s ≡ Err (refusal 13 p) → ((header_of s).drawn ≡ false) × (parents_max < (header_of s).parents)
counted s {p} e = (by-mark (header_of s).drawn refl, by_count (le_or_lt _ _))
  where
    never : ((header_of s).drawn ≡ true) ⊎ ((header_of s).parents ≤ parents_max) → {A : Type 0} → A
    never which =
        let at = (by_header s 12 (omega arith) (few_parents (header_of s) which)).bound 13 p e in
        absurd (omega (arith, at.0))

    by-mark : (b : Bool) → (header_of s).drawn ≡ b → (header_of s).drawn ≡ false
    by-mark true is = never (inl is)
    by-mark false is = is

    by_count : ((header_of s).parents ≤ parents_max) ⊎ (parents_max < (header_of s).parents) → parents_max < (header_of s).parents
    by_count (inl few) = never (inr few)
    by_count (inr many) = many

-- the verdict on a book that is refused
refused_by : (v : Verdict) (b : Book) {n p : ℕ} → outcome_of v b ≡ Outcome.refused n p → v ≡ Err (refusal n p)
unfolding outcome_of
refused_by (Ok u) b e = let z : ◌≡◌ {A = ℕ} 0 1 = cc in absurd (omega arith)
refused_by (Err r) b {n} {p} e = let x : r.number ≡ n = cc in let y : r.place ≡ p = cc in rw (← x, ← y)

-- of every book that is refused
pub refused_bounds : (s : List ℕ) {n p : ℕ} → parse s ≡ Outcome.refused n p → (n ≤ 13) × (p ≤ 1048576)
unfolding parse
refused_bounds s {n} {p} e = (book_bounded s).bound n p (refused_by (book_verdict s) (book_of s) e)
