-- The maps that rules make from the keys, and the map of parents.
use Rattle.std.specs.Prelude.{ℕ, Bool, cond, List, map}
use Rattle.findings.specs.Findings.{keep}
use Rattle.book.specs.Maps.{collect}
use Rattle.book.specs.Book.{Bkey, Book}
use Rattle.book.specs.Words.{holds, id_of, parent_word}

-- the map made from the keys that pass a test, by a number of each, with what is kept of it: "a later key replaces an earlier one"
unfoldable pub map_of : {A : Type 0} → (Bkey → Bool) → (Bkey → ℕ) → (Bkey → A) → List Bkey → List (ℕ × A)
map_of test number word ks = collect (map (λ k. (number k, word k)) (keep test ks))

-- "parents are the parent words of btree 9 keys of type 22 with 8 value bytes or more, by the offset's low 32 bits, the later key winning"
unfoldable pub drawn_from : List Bkey → List (ℕ × ℕ)
drawn_from ks = map_of (holds 9 22 8) id_of parent_word ks

-- each id with its parent, by the keys with the drawn mark and by the table without: every rule and question that goes by parents reads them here
unfoldable pub parents_of : Book → List (ℕ × ℕ)
parents_of b = cond b.header.drawn (drawn_from b.keys) b.parents
