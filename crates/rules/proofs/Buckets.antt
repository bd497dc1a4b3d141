-- Examples of free space and generations, by computing: a run that starts one below the first bucket, ages of buckets, and
-- the ends of bucket numbers.
use Rattle.std.specs.Prelude.{None, Option, Some}
use Prim.Native.Nat.{ℕ, ◌+◌, ◌-◌, ◌*◌, ◌^◌}
use mathlib.Core.Path.{◌≡◌, refl}
use mathlib.Core.List.{List, [], ◌∷◌, ◌++◌, map}
use lib.ListN.{replicate}
use Rattle.findings.specs.Findings.{finding, when, only, each}
use Rattle.pairs.specs.Pairs.{pair, insert, sort}
use Rattle.book.specs.Maps.{lookup}
use Rattle.book.specs.Book.{Bkey, Book, is}
use Rattle.gens.specs.BucketGensAgainstAlloc.{or_zero, is_gens, bucket_of, gen_at, gens_of_key, covered, uncovered, bucket_gens_against_alloc}
use Rattle.buckets.specs.FreeSpace.{no_run, in_use, is_free, alloc_range, used_buckets, first_or, set_findings, run_findings, held_run, held_runs, gaps, gap_findings, free_space}
use Rattle.rules.specs.Rows.{hole}

-- a run that ends at `end`, of `size` buckets
run : ℕ → ℕ → Bkey
run end size = record { btree = 11; key_type = 25; size = size; inode = 0; offset = end; snapshot = 0; value = [] }

-- a bucket_gens key
recorded : ℕ → List ℕ → Bkey
recorded offset value = record { btree = 14; key_type = 30; size = 0; inode = 0; offset = offset; snapshot = 0; value = value }

-- the book of the table's row on a hole, device 0 with buckets from 1 up to 4, with these tables and keys
book : List (ℕ × ℕ) → List (ℕ × Option ℕ) → List Bkey → Book
book gens alloc keys = record { header = hole.header; parents = []; subvolumes = []; gens = gens; alloc = alloc; keys = keys }

free : map free_space
    (book [] [] [] ∷
    book [] [] (run 4 3 ∷ []) ∷
    book [] [] (run 4 4 ∷ []) ∷
    book [] ((2, Some 3) ∷ []) (run 4 4 ∷ []) ∷
    book [] ((2, Some 3) ∷ (3, Some 0) ∷ []) (run 4 3 ∷ []) ∷
    book [] ((2, Some 0) ∷ (3, None) ∷ []) [] ∷
    book [] [] (run 5 1 ∷ run 2 3 ∷ run 4 3 ∷ []) ∷
    book [] [] (run 4 1 ∷ run 2 1 ∷ []) ∷ [])
    ≡ (finding 50 1 4 ∷ []) ∷
    [] ∷
    (finding 48 0 1 ∷ []) ∷
    (finding 48 0 2 ∷ []) ∷
    (finding 48 2 1 ∷ []) ∷
    (finding 50 1 2 ∷ finding 49 2 0 ∷ []) ∷
    (finding 47 5 1 ∷ finding 47 2 3 ∷ []) ∷
    (finding 50 2 3 ∷ []) ∷ []
unfolding run book hole when only each insert sort is pair no_run in_use is_free alloc_range used_buckets first_or set_findings run_findings held_run held_runs gaps gap_findings free_space
free = refl

-- with ages 1, 128 and 255: a run that holds all buckets, one that is longer than its 56 bits, one that ends past the
-- buckets, one whose 56 bits are 0
aged : map free_space
    (book [] [] (run (2 ^ 56 + 4) 3 ∷ []) ∷
    book [] [] (run (2 ^ 63 + 2) 3 ∷ run 4 3 ∷ []) ∷
    book [] [] (run (255 * 2 ^ 56 + 5) 1 ∷ run 4 3 ∷ []) ∷
    book [] [] (run (2 ^ 56) 0 ∷ []) ∷ [])
    ≡ [] ∷ (finding 47 2 3 ∷ []) ∷ (finding 47 5 1 ∷ []) ∷ (finding 48 0 1 ∷ finding 50 1 4 ∷ []) ∷ []
unfolding run book hole when only each insert sort is pair no_run alloc_range used_buckets first_or set_findings run_findings held_run held_runs gaps gap_findings free_space
aged = refl

generations : map bucket_gens_against_alloc
    (book [] [] (recorded 0 (0 ∷ 7 ∷ []) ∷ []) ∷
    book ((1, 7) ∷ (300, 2) ∷ []) [] (recorded 0 (0 ∷ 7 ∷ []) ∷ []) ∷
    book ((1, 7) ∷ []) [] (recorded 0 [] ∷ []) ∷
    book [] [] (recorded (2 ^ 56) (0 ∷ 1 ∷ []) ∷ []) ∷
    book [] [] (recorded (2 ^ 56 - 1) (replicate 255 0 ++ (9 ∷ 9 ∷ [])) ∷ []) ∷ [])
    ≡ (finding 46 1 7 ∷ []) ∷ (finding 46 300 2 ∷ []) ∷ [] ∷ (finding 46 1 1 ∷ []) ∷ (finding 46 (2 ^ 64 - 1) 9 ∷ []) ∷ []
unfolding recorded book hole when only each is lookup or_zero is_gens bucket_of gen_at gens_of_key covered uncovered bucket_gens_against_alloc
generations = refl
