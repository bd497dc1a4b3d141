-- A key of a book by its place.
use Rattle.std.specs.Prelude.{ℕ, ◌≤◌, ◌≡◌, List, length}
use Rattle.book.specs.declared.KeyFront.{KeyFront}
use Rattle.book.specs.Book.{Bkey, key_head, key_end, key_of}
use Rattle.book.specs.Walk.{front_of}

-- the key at byte p
abbrev pub key_at : List ℕ → ℕ → Bkey
key_at s p = key_of s (key_head s p)

-- a key that lies within a book stands at byte p, and f is its front
pub record AtKey (s : List ℕ) (p : ℕ) (f : KeyFront) : Type 0 where
  pub small : length s ≤ 1048576
  pub inside : key_end s p ≤ length s
  pub front : f ≡ front_of (key_head s p)
