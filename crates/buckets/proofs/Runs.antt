-- What the code computes of a run is what the rule says of it.
use Rattle.std.specs.Prelude.{None, Option, Some}
use Prim.Native.Nat.{ℕ, zero, suc, ◌+◌, ◌-◌, ◌*◌, ◌/◌, ◌%◌, ◌^◌, ◌≤◌, ◌<◌, max}
use mathlib.Core.Path.{◌≡◌, refl, sym, ap, ap₂, ◌∙◌, subst}
use mathlib.Core.Bool.{Bool, true, false, true≢false, cond, ◌||◌, or-true}
use mathlib.Core.Logic.{⊎_elim}
use mathlib.Core.List.{List, [], ◌∷◌, ◌++◌}
use native.Mathlib.Nat.{le_of_suc-le-suc}
use native.Mathlib.Numerals.{add-one}
use native.Mathlib.Omega.{arith}
use lib.ListN.{length}
use lib.Dec.{eqb, ltb}
use borrow.Author.Tests.{ltb-false}
use Rattle.findings.specs.Findings.{finding, when}
use Rattle.pairs.specs.Pairs.{pair, sort}
use Rattle.pairs.proofs.Order.{tested, kept, sort_permuted}
use Rattle.pairs.proofs.Words.{pair_first, pair_second}
use Rattle.book.specs.declared.Header.{Header}
use Rattle.book.specs.declared.KeyHead.{KeyHead}
use Rattle.book.specs.declared.AllocEntry.{AllocEntry}
use Rattle.book.specs.declared.Entry.{Entry}
use Rattle.book.specs.Book.{Bkey, Book, data_type_of, alloc_table, alloc_from, entry_at, key_head, key_end, bkey, key_of, keys_from, book_of}
use Rattle.book.specs.Walk.{alloc_entry_of}
use Rattle.walk.specs.Keys.{key_at, gather}
use Rattle.book.proofs.Tables.{entries_step, entries_none}
use Rattle.buckets.specs.declared.Used.{Used}
use Rattle.buckets.specs.FreeSpace.{is_run, run_end, no_run, held_run, in_use, is_free, alloc_range, used_buckets, first_or, set_findings, run_findings, held_runs}
use Rattle.buckets.specs.Steps.{run_pair, in_use_of, is_free_of, used_of, used_with, Fair}

-- ---- a run

-- what follows from each answer of its three tests: it starts before bucket 0, is on the device, ends past its buckets
module _ (h : Header) (k : Bkey) where
  abbrev If : Type 0 → Bool → Bool → Bool → Type 0
  If P early here past = ltb (run_end k) k.size ≡ early → eqb k.inode h.device ≡ here → ltb h.buckets (run_end k) ≡ past → P

  pub by_tests : {P : Type 0} → If P true true true → If P true true false → If P true false true → If P true false false
      → If P false true true → If P false true false → If P false false true → If P false false false → P
  by_tests ttt ttf tft tff ftt ftf fft fff =
      let here = tested (eqb k.inode h.device) in
      let past = tested (ltb h.buckets (run_end k)) in
      ⊎_elim
      (λ t. ⊎_elim (λ u. ⊎_elim (ttt t u) (ttf t u) past) (λ u. ⊎_elim (tft t u) (tff t u) past) here)
      (λ t. ⊎_elim (λ u. ⊎_elim (ftt t u) (ftf t u) past) (λ u. ⊎_elim (fft t u) (fff t u) past) here)
      (tested (ltb (run_end k) k.size))

-- a key that is one starts at bucket 0 or later
pub run_size : (h : Header) (k : Bkey) → no_run h k ≡ false → k.size ≤ run_end k
unfolding no_run
run_size h k e =
    let None : no_run h k ≡ true → k.size ≤ run_end k = λ t. absurd (true≢false (sym t ∙ e)) in
    let one = ltb-false (run_end k) k.size in
    by_tests h k
    (λ x y z. None (simp (or-true, x, y, z))) (λ x y z. None (simp (or-true, x, y, z)))
    (λ x y z. None (simp (or-true, x, y, z))) (λ x y z. None (simp (or-true, x, y, z)))
    (λ x y z. one x) (λ x y z. one x) (λ x y z. one x) (λ x y z. one x)

pub held_none : (h : Header) (k : Bkey) → no_run h k ≡ true → held_run h k ≡ []
unfolding held_run
held_none h k e = rw e

pub held_one : (h : Header) (k : Bkey) → no_run h k ≡ false → {a e : ℕ} → e ≡ run_end k → a ≡ max (e - k.size) h.first_bucket → pair a e ∷ [] ≡ held_run h k
unfolding held_run
held_one h k is e a = rw (is, a, e)

-- by its head alone
no_run_any : (h : Header) (k : KeyHead) (v w : List ℕ) → no_run h (bkey k v) ≡ no_run h (bkey k w)
unfolding no_run
no_run_any h k v w = refl

held_any : (h : Header) (k : KeyHead) (v w : List ℕ) → held_run h (bkey k v) ≡ held_run h (bkey k w)
unfolding held_run no_run
held_any h k v w = refl

module _ (s : List ℕ) {h : Header} (header : (book_of s).header ≡ h) {k : KeyHead} (t : List ℕ) (p : ℕ) (head : k ≡ key_head t p) where
  no_run_is : no_run (book_of s).header (key_of t k) ≡ no_run h (bkey k [])
  no_run_is = rw header (no_run_any h k _ [])

  pub run_none : {e : ℕ} → e ≡ run_end (bkey k []) → no_run h (bkey k []) ≡ true → finding 47 e k.size ∷ [] ≡ run_findings (book_of s) (key_at t p)
  unfolding run_findings
  run_none e not = rw (← head, no_run_is ∙ not, e)

  pub run_set : {e : ℕ} → e ≡ run_end (bkey k []) → no_run h (bkey k []) ≡ false
      → set_findings h.first_bucket (e - k.size) (used_buckets (alloc_range (e - k.size) e (book_of s).alloc)) ≡ run_findings (book_of s) (key_at t p)
  unfolding run_findings
  run_set e is = rw (← head, no_run_is ∙ is, header, e)

  -- the pair that it gives
  pub run_pair_lem : is_run (key_at t p) ≡ true → held_run h (bkey k []) ≡ run_pair (book_of s) p (key_at t p)
  unfolding run_pair
  run_pair_lem e = rw (e, header) (held_any h k [] _ ∙ ap (λ (x : KeyHead). held_run h (key_of t x)) head)

pub no_pair : (b : Book) (p : ℕ) (k : Bkey) → is_run k ≡ false → run_pair b p k ≡ []
unfolding run_pair
no_pair b p k e = rw e

-- ---- the pairs of all runs
pub held_all : (b : Book) (s : List ℕ) (n p : ℕ) → gather (run_pair b) s n p ≡ held_runs b (keys_from s n p)
unfolding gather run_pair held_runs keys_from
held_all b s zero p = refl
held_all b s (suc n) p = ap (λ (l : List ℕ). cond (is_run (key_at s p)) (held_run b.header (key_at s p)) [] ++ l) (held_all b s n (key_end s p))

-- none starts past both its end and the first bucket
abbrev FairPair : ℕ → ℕ → Type 0
FairPair first x = x / 2 ^ 64 ≤ max first (x % 2 ^ 64)

fair_by : (first x : ℕ) (ps : List ℕ) → FairPair first x → Fair first ps → Fair first (x ∷ ps)
unfolding Fair
fair_by first x ps h f zero l = h
fair_by first x ps h f (suc k) l = f k (le_of_suc-le-suc l)

fair_pair : (first a e : ℕ) → e < 2 ^ 64 → a ≤ max first e → FairPair first (pair a e)
fair_pair first a e small h = rw (pair_first a e small, pair_second a e small) h

fair_held : (h : Header) (is absent : Bool) (k : Bkey) (ps : List ℕ) → Fair h.first_bucket ps
    → Fair h.first_bucket (cond is (cond absent [] (pair (max (run_end k - k.size) h.first_bucket) (run_end k) ∷ [])) [] ++ ps)
fair_held h false absent k ps f = f
fair_held h true true k ps f = f
fair_held h true false k ps f = fair_by h.first_bucket _ ps (fair_pair h.first_bucket _ (run_end k) (omega arith) (omega arith)) f

fair_all : (b : Book) (s : List ℕ) (n p : ℕ) → Fair b.header.first_bucket (gather (run_pair b) s n p)
unfolding gather run_pair held_run
fair_all b s zero p = unfold Fair in λ k l. absurd (omega arith)
fair_all b s (suc n) p = fair_held b.header (is_run (key_at s p)) (no_run b.header (key_at s p)) (key_at s p) _ (fair_all b s n (key_end s p))

fair_sort : (first : ℕ) (ps : List ℕ) → Fair first ps → Fair first (sort ps)
unfolding Fair
fair_sort first ps f = kept (λ x. x / 2 ^ 64 ≤ max first (x % 2 ^ 64)) ps (sort ps) (sort_permuted ps) f

pub fair_sorted : (s : List ℕ) {h : Header} → (book_of s).header ≡ h → (n p : ℕ) {xs : List ℕ} → xs ≡ sort (gather (run_pair (book_of s)) s n p) → Fair h.first_bucket xs
fair_sorted s header n p e =
    let ps = gather (run_pair (book_of s)) s n p in
    rw e (subst (λ (h : Header). Fair h.first_bucket (sort ps)) header (fair_sort (book_of s).header.first_bucket ps (fair_all (book_of s) s n p)))

-- ---- the buckets in use of a run

in_use_is : (o : Option ℕ) → in_use_of o ≡ in_use o
unfolding in_use_of in_use
in_use_is None = refl
in_use_is (Some t) = refl

pub free_is : (o : Option ℕ) → is_free_of o ≡ is_free o
unfolding is_free_of is_free
free_is None = refl
free_is (Some t) = refl

abbrev used : ℕ → ℕ → Used
used count first = record { count = count; first = first }

used_by : (d : ℕ) (b : Bool) (x : ℕ) (us : List ℕ) → cond b (used (length us + 1) x) (used (length us) (first_or d us)) ≡ used (length (cond b (x ∷ us) us)) (first_or d (cond b (x ∷ us) us))
unfolding first_or
used_by d true x us = ap (λ (n : ℕ). used n x) (add-one (length us))
used_by d false x us = refl

used_cons : (d : ℕ) (e : Entry) (xs : List (ℕ × Option ℕ)) → used_with (alloc_entry_of e) (used_of d xs) ≡ used_of d ((e.first, data_type_of e.rest) ∷ xs)
unfolding used_with used_of used_buckets
used_cons d e xs = rw (in_use_is (data_type_of e.rest)) (used_by d (in_use (data_type_of e.rest)) e.first (used_buckets xs))

module _ (s : List ℕ) (d start count : ℕ) where
  -- the entries of a range from number `left` on
  abbrev pub from : ℕ → List (ℕ × Option ℕ)
  from left = alloc_from s (count - left) (start + left * 10)

  pub used_none : used 0 d ≡ used_of d (from count)
  unfolding used_of used_buckets first_or
  used_none = rw (entries_none _ alloc_table s (start + count * 10) {n = count - count} (omega arith))

  pub used_turn : {left : ℕ} → 0 < left → left ≤ count → {e : AllocEntry} {u v : Used} → e ≡ alloc_entry_of (entry_at alloc_table s (start + (left - 1) * 10))
      → u ≡ used_of d (from left) → v ≡ used_with e u → v ≡ used_of d (from (left - 1))
  used_turn {left} more fits e u v =
      let q = start + (left - 1) * 10 in
      let rest : alloc_from s (count - (left - 1) - 1) (q + 10) ≡ from left = ap₂ (alloc_from s) (omega arith) (omega arith) in
      v ∙ ap₂ used_with e u ∙ used_cons d (entry_at alloc_table s q) (from left)
      ∙ ap (used_of d) (ap (λ (l : List (ℕ × Option ℕ)). ((entry_at alloc_table s q).first, data_type_of (entry_at alloc_table s q).rest) ∷ l) (sym rest) ∙ sym (entries_step data_type_of alloc_table s (count - (left - 1)) q (omega arith)))

  pub used_all : {left : ℕ} → left ≡ 0 → {u : Used} → u ≡ used_of d (from left) → u ≡ used_of d (alloc_from s count start)
  used_all e u = u ∙ ap (used_of d) (ap₂ (alloc_from s) (omega arith) (omega arith))

-- what the code finds by them
pub one_at_most : (b : Bool) → cond b 1 0 ≤ 1
one_at_most true = omega arith
one_at_most false = omega arith

pub set_is : (first start : ℕ) (xs : List (ℕ × Option ℕ)) {u : Used} {named more : ℕ} → u ≡ used_of start xs → named ≡ cond (ltb start first) start u.first → more ≡ cond (ltb start first) 1 0
    → when (ltb start first || ltb 0 u.count) (finding 48 named (u.count + more)) ≡ set_findings first start (used_buckets xs)
unfolding set_findings used_of
set_is first start xs e n m = rw (n, m, e)
