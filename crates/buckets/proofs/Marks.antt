-- The buckets in use of a range of alloc entries, by those of all entries from a place on.
use Rattle.std.specs.Prelude.{Option}
use Prim.Native.Nat.{ℕ, zero, suc, ◌+◌, ◌-◌, ◌*◌, ◌≤◌, ◌<◌, min, zero-le}
use mathlib.Core.Path.{◌≡◌, refl, sym, ap, ap₂, ◌∙◌}
use mathlib.Core.Bool.{Bool, true, false, cond, ◌||◌}
use mathlib.Core.List.{List, [], ◌∷◌, ◌++◌}
use mathlib.Core.Logic.{⊎_elim}
use native.Mathlib.Nat.{eq-or-lt_of_le}
use native.Mathlib.Omega.{arith}
use lib.ListN.{length, get_or, set, length-append, length-set}
use lib.Dec.{ltb}
use lib.Seq.{get_or-set_same, get_or-set_other}
use borrow.Author.Tests.{lt-ltb, le-ltb, ltb-false}
use Rattle.book.specs.Book.{data_type_of, alloc_table, table_from, alloc_from}
use Rattle.book.proofs.Tables.{length_table, pair_at, entries_none}
use Rattle.buckets.specs.declared.Used.{Used}
use Rattle.buckets.specs.FreeSpace.{in_use, used_buckets, first_or}
use Rattle.buckets.specs.Steps.{used_of, used_from, Marked}

-- the two numbers as the code has them
abbrev used : ℕ → ℕ → Used
used count first = record { count = count; first = first }

-- ---- the entries of a range, and those after it

-- n entries, and the m after them
table_append : (s : List ℕ) (n m p : ℕ) → alloc_from s (n + m) p ≡ alloc_from s n p ++ alloc_from s m (p + n * 10)
unfolding table_from
table_append s zero m p = let here : p ≡ p + 0 * 10 = omega arith in let all : 0 + m ≡ m = omega arith in rw all (ap (alloc_from s m) here)
table_append s (suc n) m p =
    let all : suc n + m ≡ suc (n + m) = omega arith in
    let place : (p + 10) + n * 10 ≡ p + suc n * 10 = omega arith in
    rw (all, ← place) (ap (λ (l : List (ℕ × Option ℕ)). pair_at data_type_of alloc_table s p ∷ l) (table_append s n m (p + 10)))

-- a bucket in use before two lists of them
cond_append : (b : Bool) (x : ℕ) (us vs ws : List ℕ) → us ≡ vs ++ ws → cond b (x ∷ us) us ≡ cond b (x ∷ vs) vs ++ ws
cond_append true x us vs ws e = ap (λ (l : List ℕ). x ∷ l) e
cond_append false x us vs ws e = e

-- the buckets in use of two lists of entries
used_append : (xs ys : List (ℕ × Option ℕ)) → used_buckets (xs ++ ys) ≡ used_buckets xs ++ used_buckets ys
unfolding used_buckets
used_append [] ys = refl
used_append (x ∷ xs) ys = cond_append (in_use x.1) x.0 (used_buckets (xs ++ ys)) (used_buckets xs) (used_buckets ys) (used_append xs ys)

-- a bucket in use is one more at most
cond_few : (b : Bool) (x n : ℕ) (us : List ℕ) → length us ≤ n → length (cond b (x ∷ us) us) ≤ suc n
cond_few true x n us h = omega arith
cond_few false x n us h = omega arith

-- no more are in use than there are entries
used_length : (xs : List (ℕ × Option ℕ)) → length (used_buckets xs) ≤ length xs
unfolding used_buckets
used_length [] = zero-le
used_length (x ∷ xs) = cond_few (in_use x.1) x.0 (length xs) (used_buckets xs) (used_length xs)

-- the first of both lists is that of the first list, if it has one
first_append : (d : ℕ) (us vs : List ℕ) → cond (ltb 0 (length (us ++ vs) - length vs)) (first_or 0 (us ++ vs)) d ≡ first_or d us
unfolding first_or
first_append d [] vs = rw (le-ltb 0 (length vs - length vs) (omega arith))
first_append d (u ∷ us) vs = rw (lt-ltb 0 (suc (length (us ++ vs)) - length vs) (omega (arith, length-append us vs)))

-- what both lists have, less what the second has, is what the first has
used_split : (d : ℕ) (xs ys : List (ℕ × Option ℕ)) → let a = used_of 0 (xs ++ ys) in let b = used_of 0 ys in
    used (a.count - b.count) (cond (ltb 0 (a.count - b.count)) a.first d) ≡ used_of d xs
unfolding used_of
used_split d xs ys =
    let us = used_buckets xs in
    let vs = used_buckets ys in
    let number : length (us ++ vs) - length vs ≡ length us = omega (arith, length-append us vs) in
    rw (used_append xs ys) (ap₂ used number (first_append d us vs))

-- the number in use is no more than that of the entries
pub used_most : (s : List ℕ) (d n p : ℕ) {u : Used} → u ≡ used_of d (alloc_from s n p) → u.count ≤ n
unfolding used_of
used_most s d n p e = rw e (omega (arith, used_length (alloc_from s n p), length_table data_type_of alloc_table s n p))

-- the second of two tests
pub not_less : (a : Bool) (m n : ℕ) → (a || ltb m n) ≡ false → n ≤ m
not_less true m n e = let z : ◌≡◌ {A = ℕ} 0 1 = cc in absurd (omega arith)
not_less false m n e = ltb-false m n e

module _ (s : List ℕ) (start count : ℕ) where
  -- the same, from number i on
  pub used_few : (i : ℕ) → (used_from s start count i).count ≤ count - i
  used_few i = used_most s 0 (count - i) (start + i * 10) refl

  -- none are in use past the last entry
  pub used_end : (i : ℕ) → count ≤ i → used 0 0 ≡ used_from s start count i
  unfolding used_of used_buckets first_or
  used_end i h = rw (entries_none data_type_of alloc_table s (start + i * 10) {n = count - i} (omega arith))

  -- the entries from number `low` on: n, and those after them
  split_at : (low n : ℕ) → low + n ≤ count
      → alloc_from s (count - low) (start + low * 10) ≡ alloc_from s n (start + low * 10) ++ alloc_from s (count - (low + n)) (start + (low + n) * 10)
  split_at low n h =
      let p = start + low * 10 in
      let more : count - low ≡ n + (count - (low + n)) = omega arith in
      let place : p + n * 10 ≡ start + (low + n) * 10 = omega arith in
      ap (λ (k : ℕ). alloc_from s k p) more ∙ table_append s n (count - (low + n)) p ∙ ap (λ (q : ℕ). alloc_from s n p ++ alloc_from s (count - (low + n)) q) place

  -- those of n entries from number `low` on, by those from there on and from their end on
  pub used_range : (low n d : ℕ) → low + n ≤ count → {a b : Used} → a ≡ used_from s start count low → b ≡ used_from s start count (low + n)
      → used (a.count - b.count) (cond (ltb 0 (a.count - b.count)) a.first d) ≡ used_of d (alloc_from s n (start + low * 10))
  used_range low n d h ea eb =
      rw (ea, eb, split_at low n h) (used_split d (alloc_from s n (start + low * 10)) (alloc_from s (count - (low + n)) (start + (low + n) * 10)))

  -- from the end on there are no more than from the start on
  pub used_order : (low n : ℕ) → low + n ≤ count → {a b : Used} → a ≡ used_from s start count low → b ≡ used_from s start count (low + n) → b.count ≤ a.count
  unfolding used_of
  used_order low n h ea eb =
      let xs = alloc_from s n (start + low * 10) in
      let ys = alloc_from s (count - (low + n)) (start + (low + n) * 10) in
      rw (ea, eb, split_at low n h, used_append xs ys) (omega (arith, length-append (used_buckets xs) (used_buckets ys)))

  -- ---- the marks

  -- those from number k on are right
  unfoldable pub MarkedFrom : List ℕ → ℕ → Type 0
  MarkedFrom m k₀ = (k : ℕ) → k₀ ≤ k → 2 * k + 2 ≤ length m
      → (get_or m (2 * k) 0 ≡ (used_from s start count (min (k * 256) count)).count) × (get_or m (2 * k + 1) 0 ≡ (used_from s start count (min (k * 256) count)).first)

  -- past the last mark there is nothing to be right
  pub marks_none : (m : List ℕ) (k₀ : ℕ) → length m < 2 * k₀ + 2 → MarkedFrom m k₀
  unfolding MarkedFrom
  marks_none m k₀ h k l e = absurd (omega arith)

  -- nor in a list of one word
  pub marks_few : (m : List ℕ) → length m < 2 → Marked s start count m
  unfolding Marked
  marks_few m h k l = absurd (omega arith)

  -- right from number 0 on is right
  pub marks_all : (m : List ℕ) (k₀ : ℕ) → MarkedFrom m k₀ → k₀ ≡ 0 → Marked s start count m
  unfolding MarkedFrom Marked
  marks_all m k₀ f e k l = f k (omega arith) l

  -- a mark put before those that are right
  pub marks_turn : (m : List ℕ) (k₀ k₁ : ℕ) {n : List ℕ} {u : Used} → 2 * k₀ + 2 ≤ length m → u ≡ used_from s start count (min (k₀ * 256) count)
      → n ≡ set (set m (2 * k₀) u.count) (2 * k₀ + 1) u.first → k₁ ≤ k₀ + 1 → MarkedFrom m k₁ → MarkedFrom n k₀
  unfolding MarkedFrom
  marks_turn m k₀ k₁ {n} {u} h e is next f k l inside =
      let first = set m (2 * k₀) u.count in
      let same : length n ≡ length m = ap length is ∙ simp length-set in
      ⊎_elim
      (λ (q : k₀ ≡ k). rw (← q, is) (
        get_or-set_other first (2 * k₀ + 1) (2 * k₀) u.first 0 (omega arith) ∙ get_or-set_same m (2 * k₀) u.count 0 (omega arith) ∙ ap (λ (v : Used). v.count) e,
        get_or-set_same first (2 * k₀ + 1) u.first 0 (simp length-set (omega arith)) ∙ ap (λ (v : Used). v.first) e,
      ))
      (λ (q : k₀ < k). rw is (
        get_or-set_other first (2 * k₀ + 1) (2 * k) u.first 0 (omega arith) ∙ get_or-set_other m (2 * k₀) (2 * k) u.count 0 (omega arith) ∙ (f k (omega arith) (omega arith)).0,
        get_or-set_other first (2 * k₀ + 1) (2 * k + 1) u.first 0 (omega arith) ∙ get_or-set_other m (2 * k₀) (2 * k + 1) u.count 0 (omega arith) ∙ (f k (omega arith) (omega arith)).1,
      ))
      (eq-or-lt_of_le l)

  -- what a mark says
  pub mark_is : (m : List ℕ) (k : ℕ) → Marked s start count m → 2 * k + 2 ≤ length m → {i : ℕ} → i ≡ min (k * 256) count
      → used (get_or m (2 * k) 0) (get_or m (2 * k + 1) 0) ≡ used_from s start count i
  unfolding Marked
  mark_is m k f h e = ap₂ used (f k h).0 (f k h).1 ∙ ap (used_from s start count) (sym e)
