-- A walk over the keys of a book by their places.
use Rattle.std.specs.Prelude.{ℕ, zero, suc, ◌≤◌, ◌≡◌, Bool, false, ◌||◌, List, [], ◌∷◌, ◌++◌, length}
use Rattle.book.specs.declared.KeyFront.{KeyFront}
use Rattle.book.specs.Book.{Bkey, key_head, key_end, key_of}
use Rattle.book.specs.Walk.{front_of}
pub use Rattle.book.specs.Keys.{key_at, AtKey}

-- what `of` gives for the n keys from byte p on, each with its place
unfoldable pub gather : (ℕ → Bkey → List ℕ) → List ℕ → ℕ → ℕ → List ℕ
gather of s zero p = []
gather of s (suc n) p = of p (key_at s p) ++ gather of s n (key_end s p)

-- some key passes the test
unfoldable pub any_key : (Bkey → Bool) → List Bkey → Bool
any_key test [] = false
any_key test (k ∷ ks) = test k || any_key test ks
