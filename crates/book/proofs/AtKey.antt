-- The key at hand: what its front says of it.
use Prim.Native.Nat.{ℕ, zero, suc, ◌+◌, ◌-◌, ◌*◌, ◌≤◌, ◌<◌}
use mathlib.Core.Path.{◌≡◌, refl, sym, ap, ◌∙◌}
use mathlib.Core.Bool.{Bool, true, false, true≢false, ◌&&◌}
use mathlib.Core.List.{List}
use native.Mathlib.Omega.{arith}
use lib.ListN.{length, get_or, take, drop}
use lib.Dec.{eqb, leb}
use borrow.Author.Tests.{leb-true}
use Rattle.bits.specs.Bits.{le_at, bits_at, be_at}
use Rattle.bits.proofs.Laws.{bits_be}
use Rattle.book.specs.declared.KeyFront.{KeyFront}
use Rattle.book.specs.Book.{Bkey, is, key_head, key_end}
use Rattle.book.specs.Walk.{KeysFit, front_of}
use Rattle.book.proofs.Walk.{step, front_end, value_length, value_word, value_part}
use Rattle.book.specs.Keys.{key_at, AtKey}

-- a length that was tested
pub long_enough : (a : Bool) (m n : ℕ) → a && leb m n ≡ true → m ≤ n
long_enough true m n e = leb-true m n e
long_enough false m n e = absurd (true≢false (sym e))

-- it is at hand where a key is left and its front is read
pub at_key : {s : List ℕ} {n p : ℕ} {f : KeyFront} → length s ≤ 1048576 → 0 < n → KeysFit s n p → f ≡ front_of (key_head s p) → AtKey s p f
at_key {s} {n} {p} small left fit front = record { small = small; inside = (step s n p left fit).value; front = front }

module _ {s : List ℕ} {p : ℕ} {f : KeyFront} (k : AtKey s p f) where
  -- its btree and its type
  pub at_is : (b t : ℕ) → eqb f.btree b && eqb f.key_type t ≡ is b t (key_at s p)
  unfolding is
  at_is b t = rw k.front

  -- the length of its value
  pub at_length : f.len ≡ length (key_at s p).value
  unfolding key_end
  at_length = ap (λ (f : KeyFront). f.len) k.front ∙ sym (value_length s (key_head s p) k.inside)

  -- its btree, its type, and a least length of its value
  pub at_long : (b t m : ℕ) {x : Bool} → (eqb f.btree b && eqb f.key_type t) && leb m f.len ≡ x → is b t (key_at s p) && leb m (length (key_at s p).value) ≡ x
  at_long b t m e = rw (← at_is b t, ← at_length) e

  pub at_least : (b t m : ℕ) → (eqb f.btree b && eqb f.key_type t) && leb m f.len ≡ true → m ≤ f.len
  at_least b t m e = long_enough (eqb f.btree b && eqb f.key_type t) m f.len e

  -- where it ends
  pub at_end : p + 28 + f.len ≡ key_end s p
  at_end = front_end s p k.front

  -- a word of it
  pub at_word : (i n : ℕ) → i + n ≤ f.len → le_at s (p + 28 + i) n ≡ le_at (key_at s p).value i n
  unfolding key_head
  at_word i n h = sym (value_word s (key_head s p) i n (rw k.front at h))

  -- its value
  pub at_value : take (p + 28 + f.len - (p + 28)) (drop (p + 28) s) ≡ (key_at s p).value
  unfolding key_head
  at_value = rw k.front (value_part s (key_head s p))

  -- it lies within the bytes
  pub at_inside : (p + 28 + f.len ≤ length s) × (length s ≤ 1048576)
  at_inside = let e = at_end in (omega (arith, k.inside), k.small)

-- a field of a key's head that starts with its byte i and has k whole bytes
pub head_word : (s : List ℕ) → ((j : ℕ) → get_or s j 0 < 256) → (p i k : ℕ) → be_at s (p + i) k ≡ bits_at s (8 * p + 8 * i) (8 * k)
head_word s bytes p i k = let place : 8 * p + 8 * i ≡ 8 * (p + i) = omega arith in rw place (sym (bits_be s bytes (p + i) k))
