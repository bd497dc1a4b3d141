-- A merge of a value with a gens table.
use Prim.Native.Nat.{ℕ, ◌+◌, ◌*◌, ◌%◌, ◌^◌, ◌≤◌, ◌<◌}
use mathlib.Core.Path.{◌≡◌, sym, ap, subst}
use mathlib.Core.List.{List}
use mathlib.Core.Logic.{⊎_elim}
use native.Mathlib.Nat.{eq-or-lt_of_le}
use native.Mathlib.Omega.{arith}
use Rattle.search.specs.Bound.{LowerBound}
use Rattle.book.specs.Maps.{lookup}
use Rattle.book.specs.declared.Table.{Table}
use Rattle.book.specs.declared.open.Book.{Book}
use Rattle.book.specs.Book.{whole_rest, gens_table, entry_at, book_of}
use Rattle.book.proofs.Walk.{parts}
use Rattle.tables.proofs.Found.{found_at, found_none}
use Rattle.book.specs.Walk.{first_at, Rising}
use Rattle.gens.specs.BucketGensAgainstAlloc.{or_zero, bucket_of, gen_at}
use Rattle.gens.specs.Steps.{gen_of}

-- ---- the place of the next number

-- the same for an equal number
pub bound_as : {f : ℕ → ℕ} {n x y r : ℕ} → x ≡ y → LowerBound f n x r → LowerBound f n y r
bound_as {f} {n} {x} {y} {r} e b = subst (λ (z : ℕ). LowerBound f n z r) e b

module _ {t : Table} {s : List ℕ} {start n : ℕ} (r : Rising t s start n) (x at : ℕ) (b : LowerBound (first_at t s start) n x at) where
  -- where x stands at its place
  pub place_past : at < n → first_at t s start at ≡ x → LowerBound (first_at t s start) n (x + 1) (at + 1)
  place_past l e = record {
    inside = omega arith;
    below = λ k h. ⊎_elim
        (λ (q : k ≡ at). omega (arith, ap (first_at t s start) q))
        (λ (q : k < at). omega (arith, b.below k q))
        (eq-or-lt_of_le (let z : k ≤ at = omega arith in z));
    above = λ k h g. omega (arith, r.rises at k (omega arith) g);
  }

  -- where it does not
  pub place_same : (at < n → first_at t s start at ≡ x → ⊥) → LowerBound (first_at t s start) n (x + 1) at
  place_same other = record {
    inside = b.inside;
    below = λ k h. omega (arith, b.below k h);
    above = λ k h g.
        let l : at < n = omega arith in
        let first : x ≤ first_at t s start at = b.above at (omega arith) l in
        ⊎_elim
        (λ (q : x ≡ first_at t s start at). absurd (other l (sym q)))
        (λ (q : x < first_at t s start at). ⊎_elim
        (λ (i : at ≡ k). omega (arith, ap (first_at t s start) i))
        (λ (i : at < k). omega (arith, r.rises at k i g))
        (eq-or-lt_of_le h))
        (eq-or-lt_of_le first);
  }

-- what the code finds of a byte: the offset times 256 keeps its low 64 bits
pub gen_is : (gens : List (ℕ × ℕ)) (offset i : ℕ) {b x y e : ℕ} → b ≡ offset % 0x100000000000000 * 256 + i → x ≡ y → e ≡ or_zero (lookup b gens)
    → gen_of b x e ≡ gen_at gens offset i y
unfolding gen_at bucket_of
gen_is gens offset i {b} {x} {y} {e} p q r =
    let low : b ≡ offset * 256 % 2 ^ 64 + i = omega arith in
    rw (r, low, q)

-- what the table of a book gives a bucket: at its place stands an entry with it, or the table has none
module _ (b : Book) {x at : ℕ} (bound : LowerBound (first_at gens_table b.bytes.now b.places.gens) b.header.gens x at) where
  pub gen_found : at < b.header.gens → first_at gens_table b.bytes.now b.places.gens at ≡ x → {g : ℕ}
      → g ≡ (entry_at gens_table b.bytes.now (b.places.gens + at * 9)).rest → g ≡ or_zero (lookup x (book_of b.bytes.now).gens)
  unfolding or_zero
  gen_found l here g =
      let p = parts b.opened in
      rw (g, p.gens, found_at whole_rest gens_table b.bytes.now b.header.gens b.places.gens x at bound p.gens_rise l here)

  pub gen_none : (at < b.header.gens → first_at gens_table b.bytes.now b.places.gens at ≡ x → ⊥) → 0 ≡ or_zero (lookup x (book_of b.bytes.now).gens)
  unfolding or_zero
  gen_none other =
      let p = parts b.opened in
      rw (p.gens, found_none whole_rest gens_table b.bytes.now b.header.gens b.places.gens x at bound p.gens_rise other)
