-- Laws of the tables of an accepted book: what an entry's bytes say, and that the entries rise.
use Prim.Native.Nat.{ℕ, zero, suc, ◌+◌, ◌-◌, ◌*◌, ◌≤◌, ◌<◌}
use mathlib.Core.Path.{◌≡◌, refl, sym, ap, ◌∙◌}
use mathlib.Core.List.{List, [], ◌∷◌}
use native.Mathlib.Nat.{zero-mul, add-zero, not-suc-le-zero, le_of_suc-le-suc}
use native.Mathlib.Omega.{arith}
use lib.ListN.{length, get_or}
use borrow.Author.Tests.{leb-false, le-leb}
use Rattle.bits.specs.Bits.{be_at}
use Rattle.bits.proofs.Laws.{bits_be}
use Rattle.search.proofs.Bracket.{rises}
use Rattle.book.specs.declared.Table.{Table}
use Rattle.std.specs.Prelude.{Result, Ok, Err}
use Rattle.book.specs.Book.{words_table, entry_at, table_from}
use Rattle.book.specs.Refusals.{entry_verdict, table_verdict}
use Rattle.book.specs.Walk.{first_at, Rising}
use Rattle.book.proofs.Laws.{both_passed, test_fails, entry_fits}

-- the parts of an entry that are whole bytes, as big-endian numbers
module _ (t : Table) (s : List ℕ) (bytes : (j : ℕ) → get_or s j 0 < 256) (p k : ℕ) (first : t.first ≡ 8 * k) where
  pub first_be : (entry_at t s p).first ≡ be_at s p k
  unfolding entry_at
  first_be = rw first (bits_be s bytes p k)

  pub rest_be : (m : ℕ) → 8 * t.size ≡ t.first + 8 * m → (entry_at t s p).rest ≡ be_at s (p + k) m
  unfolding entry_at
  rest_be m size =
      let width : 8 * t.size - t.first ≡ 8 * m = omega arith in
      let place : 8 * p + t.first ≡ 8 * (p + k) = omega arith in
      rw (width, place) (bits_be s bytes (p + k) m)

-- each entry of a table that passes, passes
pub entries_pass : (t : Table) (s : List ℕ) (start n i p : ℕ) → table_verdict t s start n p ≡ Ok tt → i < n →
    entry_verdict t s start (p + i * t.size) ≡ Ok tt
unfolding table_verdict
entries_pass t s start zero i p h l = absurd (not-suc-le-zero l)
entries_pass t s start (suc n) zero p h l = rw (zero-mul, add-zero) (both_passed _ _ h).0
entries_pass t s start (suc n) (suc i) p h l =
    let place : p + suc i * t.size ≡ (p + t.size) + i * t.size = omega arith in
    rw place (entries_pass t s start n i (p + t.size) (both_passed _ _ h).1 (le_of_suc-le-suc l))

-- an entry that passes and is not the first is above the one before
entry_rises : (t : Table) (s : List ℕ) (start p : ℕ) → entry_verdict t s start p ≡ Ok tt → start + t.size ≤ p →
    (entry_at t s (p - t.size)).first < (entry_at t s p).first
unfolding entry_verdict
entry_rises t s start p h later =
    let no = test_fails _ _ _ (both_passed _ _ (both_passed _ _ h).1).1 in
    leb-false _ _ (rw (le-leb _ _ later) at no)

-- a table that passes lies within the bytes
table_inside : (t : Table) (s : List ℕ) (start n : ℕ) → start ≤ length s → table_verdict t s start n start ≡ Ok tt → start + n * t.size ≤ length s
table_inside t s start zero h v = rw zero-mul (omega arith)
table_inside t s start (suc n) h v =
    let last = entry_fits t s start (start + n * t.size) (entries_pass t s start (suc n) n start v (omega arith)) in
    omega arith

-- a table that passes rises
pub table_rises : (t : Table) (s : List ℕ) (start n : ℕ) → start ≤ length s → table_verdict t s start n start ≡ Ok tt → Rising t s start n
table_rises t s start n h v = record {
  inside = table_inside t s start n h v;
  rises = rises (first_at t s start) n (λ i l.
      let place : start + suc i * t.size - t.size ≡ start + i * t.size = omega arith in
      rw place at (entry_rises t s start (start + suc i * t.size) (entries_pass t s start n (suc i) start v l) (omega arith)));
}

-- a word that was read is the first field of the entry at byte p
pub word_be : (s : List ℕ) → ((j : ℕ) → get_or s j 0 < 256) → (p : ℕ) {w : ℕ} → w ≡ be_at s p 4 → w ≡ (entry_at words_table s p).first
word_be s bytes p e = e ∙ sym (first_be words_table s bytes p 4 refl)

module _ {A : Type 0} (read : ℕ → A) (t : Table) (s : List ℕ) where
  -- the entry at byte p, as a pair of the map
  abbrev pub pair_at : ℕ → ℕ × A
  pair_at p = ((entry_at t s p).first, read (entry_at t s p).rest)

  pub length_table : (n p : ℕ) → length (table_from read t s n p) ≡ n
  unfolding table_from
  length_table zero p = refl
  length_table (suc n) p = ap suc (length_table n (p + t.size))

  -- with an entry left, the entries are the one at p and those after it
  pub entries_step : (n p : ℕ) → 0 < n → table_from read t s n p ≡ pair_at p ∷ table_from read t s (n - 1) (p + t.size)
  unfolding table_from
  entries_step zero p h = absurd (omega arith)
  entries_step (suc n) p h = let less : suc n - 1 ≡ n = omega arith in rw less

  pub entries_none : (p : ℕ) {n : ℕ} → n ≡ 0 → table_from read t s n p ≡ []
  unfolding table_from
  entries_none p e = rw e
