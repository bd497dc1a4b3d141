-- The rule `bucket_gens_against_alloc` (document 01, kind 46): subject a bucket, object "recorded generation, or without a key the alloc one".
use Rattle.std.specs.Prelude.{ℕ, ◌+◌, ◌*◌, ◌/◌, ◌%◌, ◌^◌, Bool, false, not, ◌&&◌, ◌||◌, List, [], ◌∷◌, ◌++◌, take, eqb, None, Option, Some}
use Rattle.findings.specs.Findings.{Finding, finding, when, only, each}
use Rattle.book.specs.Maps.{lookup}
use Rattle.book.specs.Book.{Bkey, Book, is}

-- a generation that is not there is 0
unfoldable pub or_zero : Option ℕ → ℕ
or_zero None = 0
or_zero (Some generation) = generation

-- a bucket_gens key (btree 14, type 30) of the book's device
unfoldable pub is_gens : ℕ → Bkey → Bool
is_gens device k = is 14 30 k && eqb k.inode device

-- the bucket of byte i of a value at an offset: "a key's offset times 256 keeps its low 64 bits"
unfoldable pub bucket_of : ℕ → ℕ → ℕ
bucket_of offset i = offset * 256 % 2 ^ 64 + i

-- a recorded generation that is not the one that the alloc keys give the bucket
unfoldable pub gen_at : List (ℕ × ℕ) → ℕ → ℕ → ℕ → List Finding
gen_at gens offset i recorded =
    when (not (eqb recorded (or_zero (lookup (bucket_of offset i) gens)))) (finding 46 (bucket_of offset i) recorded)

-- the first 256 bytes of a value, one generation each
unfoldable pub gens_of_key : List (ℕ × ℕ) → Bkey → List Finding
gens_of_key gens k = each (gen_at gens k.offset) 0 (take 256 k.value)

-- whether a key covers the buckets from offset * 256 on, whatever the length of its value
unfoldable pub covered : ℕ → ℕ → List Bkey → Bool
covered device offset [] = false
covered device offset (k ∷ ks) = (is_gens device k && eqb k.offset offset) || covered device offset ks

-- a generation other than 0 of a bucket that no key covers
unfoldable pub uncovered : ℕ → List Bkey → ℕ × ℕ → List Finding
uncovered device keys e = when (not (eqb e.1 0) && not (covered device (e.0 / 256) keys)) (finding 46 e.0 e.1)

-- 46 incorrect_gen_in_bucket_gens: by the keys, then by the generations that no key covers
unfoldable pub bucket_gens_against_alloc : Book → List Finding
bucket_gens_against_alloc b =
    each (λ _ k. only (is_gens b.header.device k) (gens_of_key b.gens k)) 0 b.keys ++ each (λ _ e. uncovered b.header.device b.keys e) 0 b.gens
