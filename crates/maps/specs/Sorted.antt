-- The pairs of all keys of a book, sorted, and a walk over them.
use Rattle.std.specs.Prelude.{ℕ, ◌≤◌, ◌≡◌, Bool, false, not, ◌&&◌, List, [], ◌∷◌, length, eqb}
use Rattle.pairs.specs.Pairs.{sort}
use Rattle.book.specs.Book.{Bkey}
use Rattle.book.specs.Walk.{KeysFit}
use Rattle.walk.specs.Keys.{gather}
use Rattle.maps.specs.Places.{number_in, which_in, goes_on}

-- xs are the pairs that `of` gives for the n keys from byte p on of a book, sorted
pub record AllPairs (of : ℕ → Bkey → List ℕ) (s : List ℕ) (n p : ℕ) (xs : List ℕ) : Type 0 where
  pub small : length s ≤ 1048576
  pub fit : KeysFit s n p
  pub all : xs ≡ sort (gather of s n p)

-- whether the first of the pairs is of this map, and the last of its number
unfoldable pub last_at : ℕ → List ℕ → Bool
last_at which [] = false
last_at which (x ∷ xs) = eqb (which_in x) which && not (goes_on which (number_in x) xs)
