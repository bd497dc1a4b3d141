-- What a function that makes pairs of keys gives.
use Rattle.std.specs.Prelude.{◌≡◌, ℕ, List, [], ◌∷◌, Option, Some, None}
use Rattle.pairs.specs.Pairs.{pair}
use Rattle.book.specs.declared.open.Key.{Key}
use Rattle.book.specs.Book.{Bkey}
use Rattle.book.specs.Turns.{held}

-- the pair, if there is one
abbrev pub pair_in : Option (ℕ × ℕ) → List ℕ
pair_in None = []
pair_in (Some p) = pair p.0 p.1 ∷ []

-- whatever it returns for a key is what `of` gives for the key and its place
abbrev pub Gives : (ℕ → Bkey → List ℕ) → (Key → Option (ℕ × ℕ) → Type 0) → Type 0
Gives of post = (k : Key) (r : Option (ℕ × ℕ)) → post k r → pair_in r ≡ of k.at (held k)
