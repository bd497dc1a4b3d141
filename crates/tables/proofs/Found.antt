-- Laws of a table that rises: a search by the first field finds what the map has.
use Rattle.std.specs.Prelude.{None, Some}
use Prim.Native.Nat.{ℕ, zero, suc, ◌+◌, ◌*◌, ◌≤◌, ◌<◌}
use mathlib.Core.Path.{◌≡◌, sym, ap, ◌∙◌}
use mathlib.Core.List.{List}
use mathlib.Core.Logic.{⊎_elim}
use native.Mathlib.Nat.{not-suc-le-zero, le_of_suc-le-suc, eq-or-lt_of_le}
use native.Mathlib.Omega.{arith}
use lib.ListN.{get_or}
use Rattle.bits.specs.Bits.{be_at}
use Rattle.search.specs.Bound.{LowerBound}
use Rattle.search.proofs.Bracket.{le_or_lt}
use Rattle.book.specs.declared.Table.{Table}
use Rattle.book.specs.Maps.{lookup, lower_bound}
use Rattle.book.specs.Book.{words_table, entry_at, table_from}
use Rattle.book.specs.Walk.{first_at, Rising}
use Rattle.book.proofs.Tables.{word_be, first_be, pair_at, length_table}
use Rattle.tables.proofs.Maps.{lookup_none, lookup_some, lower_bound_at}

-- a word that was read is the first field of entry i
pub word_first : (s : List ℕ) → ((j : ℕ) → get_or s j 0 < 256) → (start i : ℕ) {w : ℕ} → w ≡ be_at s (start + i * 8) 4 → w ≡ first_at words_table s start i
word_first s bytes start i e = word_be s bytes (start + i * 8) e

-- and so is a bucket, of a table whose first field has 64 bits
pub bucket_first : (t : Table) (s : List ℕ) → ((j : ℕ) → get_or s j 0 < 256) → (start i : ℕ) {w : ℕ} → t.first ≡ 64 → w ≡ be_at s (start + i * t.size) 8 → w ≡ first_at t s start i
bucket_first t s bytes start i wide e = e ∙ sym (first_be t s bytes (start + i * t.size) 8 wide)

-- among first fields that rise, entry r is the place of its own
pub place_of : (t : Table) (s : List ℕ) (p n x r : ℕ) → Rising t s p n → r < n → first_at t s p r ≡ x → LowerBound (first_at t s p) n x r
place_of t s p n x r up l e = record {
  inside = omega arith;
  below = λ k h. omega (arith, up.rises k r h l, e);
  above = λ k h m. ⊎_elim (λ (q : r ≡ k). omega (arith, ap (first_at t s p) q, e)) (λ (q : r < k). omega (arith, up.rises r k q m, e)) (eq-or-lt_of_le h);
}

module _ {A : Type 0} (read : ℕ → A) (t : Table) (s : List ℕ) where
  -- entry k, as a pair of the map
  table_at : (n p k : ℕ) (d : ℕ × A) → k < n → get_or (table_from read t s n p) k d ≡ pair_at read t s (p + k * t.size)
  unfolding table_from
  table_at zero p k d l = absurd (not-suc-le-zero l)
  table_at (suc n) p zero d l = let place : p ≡ p + 0 * t.size = omega arith in ap (pair_at read t s) place
  table_at (suc n) p (suc k) d l =
      let place : p + suc k * t.size ≡ (p + t.size) + k * t.size = omega arith in
      rw place (table_at n (p + t.size) k d (le_of_suc-le-suc l))

  module _ (n p x r : ℕ) (b : LowerBound (first_at t s p) n x r) where
    first_is : (k : ℕ) → k < n → (get_or (table_from read t s n p) k (0, read 0)).0 ≡ first_at t s p k
    first_is k l = ap (λ (e : ℕ × A). e.0) (table_at n p k (0, read 0) l)

    -- the bound is x's place in the map
    pub bound_is : lower_bound x (table_from read t s n p) ≡ r
    bound_is =
        let i = b.inside in
        lower_bound_at (0, read 0) (table_from read t s n p) x r (omega (arith, length_table read t s n p))
        (λ k l. omega (arith, first_is k (omega arith), b.below k l))
        (λ l. let m : r < n = omega (arith, length_table read t s n p) in omega (arith, first_is r m, b.above r (omega arith) m))

    -- at the bound stands x, or the map has nothing for it
    pub found_at : Rising t s p n → r < n → first_at t s p r ≡ x → lookup x (table_from read t s n p) ≡ Some (read (entry_at t s (p + r * t.size)).rest)
    found_at up l e =
        lookup_some (0, read 0) (table_from read t s n p) x r (omega (arith, length_table read t s n p)) (sym (first_is r l ∙ e))
        (λ j i h. omega (arith, first_is j (omega arith), b.below j i))
        ∙ ap (λ (e : ℕ × A). Some e.1) (table_at n p r (0, read 0) l)

    pub found_none : Rising t s p n → (r < n → first_at t s p r ≡ x → ⊥) → lookup x (table_from read t s n p) ≡ None
    found_none up other =
        lookup_none (0, read 0) (table_from read t s n p) x
        (λ k l e.
        let m : k < n = omega (arith, length_table read t s n p) in
        let here = first_is k m in
        ⊎_elim
        (λ (q : r ≤ k). ⊎_elim
        (λ (h : r ≡ k). other (omega arith) (ap (first_at t s p) h ∙ sym here ∙ sym e))
        (λ (h : r < k). omega (arith, up.rises r k h m, b.above r (omega arith) (omega arith)))
        (eq-or-lt_of_le q))
        (λ (q : k < r). omega (arith, b.below k q))
        (le_or_lt r k))
