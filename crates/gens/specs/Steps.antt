-- What only contracts of private functions cite.
use Rattle.std.specs.Prelude.{ℕ, ◌/◌, Bool, cond, not, ◌&&◌, List, [], ◌∷◌, eqb}
use Rattle.findings.specs.Findings.{Finding, finding, when, only}
use Rattle.pairs.specs.Pairs.{pair, has}
use Rattle.book.specs.Book.{Bkey}
use Rattle.gens.specs.BucketGensAgainstAlloc.{is_gens, gens_of_key}

-- what a recorded generation gives, by the one that is expected
abbrev pub gen_of : ℕ → ℕ → ℕ → List Finding
gen_of bucket recorded expected = when (not (eqb recorded expected)) (finding 46 bucket recorded)

-- what a generation gives, by whether a key covers its bucket
abbrev pub uncovered_of : Bool → ℕ → ℕ → List Finding
uncovered_of covers bucket generation = when (not (eqb generation 0) && not covers) (finding 46 bucket generation)

-- what a key gives, where it is a bucket_gens key of the device
abbrev pub key_gens : ℕ → List (ℕ × ℕ) → Bkey → List Finding
key_gens device gens k = only (is_gens device k) (gens_of_key gens k)

-- the pair that such a key gives: the offset that it covers, and 0
unfoldable pub cover_pair : ℕ → ℕ → Bkey → List ℕ
cover_pair device p k = cond (is_gens device k) (pair k.offset 0 ∷ []) []

-- what a bucket's generation gives, where xs are the pairs of the keys
unfoldable pub not_covered : List ℕ → ℕ → ℕ → List Finding
not_covered xs bucket generation = when (not (eqb generation 0) && not (has (pair (bucket / 256) 0) xs)) (finding 46 bucket generation)
