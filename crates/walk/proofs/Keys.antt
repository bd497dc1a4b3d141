-- The turn of a rule's walk over the keys of a book, by the step of the book and the turn of the findings.
pub use Rattle.book.proofs.AtKey.{head_word}
use Prim.Native.Nat.{ℕ, ◌+◌, ◌-◌, ◌*◌, ◌^◌, ◌≤◌, ◌<◌}
use mathlib.Core.Path.{◌≡◌, sym}
use mathlib.Core.List.{List, []}
use native.Mathlib.Omega.{arith}
use lib.ListN.{length, get_or}
use Rattle.bits.specs.Bits.{bits_at, be_at}
use Rattle.bits.proofs.Laws.{bits_lt, bits_be}
use Rattle.findings.specs.Findings.{Finding, Sink, Added, each}
use Rattle.findings.proofs.Walk.{rule, Begun, turn, each_cons, each_next}
use Rattle.book.specs.declared.KeyFront.{KeyFront}
use Rattle.book.specs.Book.{Bkey, key_head, key_end, key_of, keys_from}
use Rattle.book.specs.Walk.{KeysFit, front_of}
use Rattle.book.proofs.Walk.{step, no_keys, front_end}
use Rattle.walk.specs.Keys.{key_at}

-- past the last key there is none
pub keys_none : (s : List ℕ) (n p : ℕ) → n ≤ 0 → keys_from s n p ≡ []
keys_none s n p h = no_keys s p {n = n} (omega arith)

-- with a key left, its head and its value lie within the bytes, and so do the keys after it
pub head_fits : (s : List ℕ) (n p : ℕ) → 0 < n → KeysFit s n p → p + 28 ≤ length s
head_fits s n p h fit = (step s n p h fit).head

pub value_fits : (s : List ℕ) (n p : ℕ) → 0 < n → KeysFit s n p → key_end s p ≤ length s
value_fits s n p h fit = (step s n p h fit).value

pub rest_fits : (s : List ℕ) (n p : ℕ) {f : KeyFront} → 0 < n → f ≡ front_of (key_head s p) → KeysFit s n p → KeysFit s (n - 1) (p + 28 + f.len)
rest_fits s n p h e fit = rw (front_end s p e) (step s n p h fit).rest

-- an offset has 64 bits
pub offset_lt : (s : List ℕ) (p : ℕ) → (key_at s p).offset < 2 ^ 64
unfolding key_head
offset_lt s p = bits_lt s (8 * p + 128) 64

-- a turn of a rule's walk over the keys, and the same where the rule ignores the index
module _ {all : List Finding} {o o₁ o₂ : Sink} {n r : ℕ} where
  pub turn_keys : (at : ℕ → Bkey → List Finding) (s : List ℕ) (i left p : ℕ) {f : KeyFront} → 0 < left → KeysFit s left p → f ≡ front_of (key_head s p)
      → Begun all o (each at i (keys_from s left p)) n o₁ → Added o₁ n (at i (key_of s (key_head s p))) r o₂
      → Begun all o (each at (i + 1) (keys_from s (left - 1) (p + 28 + f.len))) r o₂
  turn_keys at s i left p h fit e b a = rw (front_end s p e) (turn b a (each_cons at i (step s left p h fit).keys))

  pub turn_keys_any : (at : ℕ → Bkey → List Finding) (s : List ℕ) (left p : ℕ) {f : KeyFront} → 0 < left → KeysFit s left p → f ≡ front_of (key_head s p)
      → ((i : ℕ) (k : Bkey) → at i k ≡ at 0 k)
      → Begun all o (each at 0 (keys_from s left p)) n o₁ → Added o₁ n (at 0 (key_of s (key_head s p))) r o₂
      → Begun all o (each at 0 (keys_from s (left - 1) (p + 28 + f.len))) r o₂
  turn_keys_any at s left p h fit e free b a = rw (front_end s p e) (turn b a (each_next at free (step s left p h fit).keys))

pub ruleset keys = (rule, turn_keys, turn_keys_any, keys_none, head_fits, value_fits, rest_fits)
