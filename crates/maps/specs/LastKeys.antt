-- The last key of a number among the keys of a book, and the later of two places.
use Rattle.std.specs.Prelude.{ℕ, zero, suc, Bool, cond, ◌&&◌, List, eqb, leb, None, Option, Some}
use Rattle.pairs.specs.Pairs.{or_else}
use Rattle.book.specs.Book.{Bkey, key_end}
use Rattle.walk.specs.Keys.{key_at}

-- the place of the last of the n keys from byte p on that passes a test and has the number x
unfoldable pub last_key : (Bkey → Bool) → (Bkey → ℕ) → List ℕ → ℕ → ℕ → ℕ → Option ℕ
last_key test number s x zero p = None
last_key test number s x (suc n) p =
    or_else (last_key test number s x n (key_end s p)) (cond (test (key_at s p) && eqb (number (key_at s p)) x) (Some p) None)

-- the later of two places
unfoldable pub later : Option ℕ → Option ℕ → Option ℕ
later None other = other
later (Some q) None = Some q
later (Some q) (Some r) = cond (leb q r) (Some r) (Some q)

-- what a map has, by the place of the key
unfoldable pub word_at : {A : Type 0} → (Bkey → A) → List ℕ → Option ℕ → Option A
word_at word s None = None
word_at word s (Some q) = Some (word (key_at s q))
