-- The rule `free_space` (document 01, kinds 47 to 50).
use Rattle.std.specs.Prelude.{ℕ, suc, ◌+◌, ◌-◌, ◌/◌, ◌%◌, ◌^◌, max, Bool, false, cond, not, ◌&&◌, ◌||◌, List, [], ◌∷◌, ◌++◌, length, eqb, ltb, leb, None, Option, Some}
use Rattle.findings.specs.Findings.{Finding, finding, when, only, each}
use Rattle.pairs.specs.Pairs.{pair, sort}
use Rattle.book.specs.declared.Header.{Header}
use Rattle.book.specs.Book.{Bkey, Book, is}

-- a run of free buckets (btree 11, type 25), as many as its size
abbrev pub is_run : Bkey → Bool
is_run k = is 11 25 k

-- the bits of its offset that number a bucket; those above them hold an age
abbrev pub bucket_bits : ℕ
bucket_bits = 56

-- "For btree 11 the free-space rule reads the low 56 bits of the offset only, and names these in its findings"
-- (document 02, ticket 5): where a run ends
abbrev pub run_end : Bkey → ℕ
run_end k = k.offset % 2 ^ bucket_bits

-- "Subtraction of the size is done on the 56-bit number": where it starts
abbrev pub run_start : Bkey → ℕ
run_start k = run_end k - k.size

-- a run that starts before bucket 0 ("a run longer than it still gives 47"), is on another device, or ends past the
-- device's buckets
unfoldable pub no_run : Header → Bkey → Bool
no_run h k = ltb (run_end k) k.size || (not (eqb k.inode h.device) || ltb h.buckets (run_end k))

-- a data type that is there and not 0: the bucket is in use
unfoldable pub in_use : Option ℕ → Bool
in_use None = false
in_use (Some t) = not (eqb t 0)

-- a data type that is there and 0: the bucket is free
unfoldable pub is_free : Option ℕ → Bool
is_free None = false
is_free (Some t) = eqb t 0

-- the alloc entries of the buckets from a up to, not including, e
unfoldable pub alloc_range : ℕ → ℕ → List (ℕ × Option ℕ) → List (ℕ × Option ℕ)
alloc_range a e [] = []
alloc_range a e (x ∷ xs) = cond (leb a x.0 && ltb x.0 e) (x ∷ alloc_range a e xs) (alloc_range a e xs)

-- the buckets of alloc entries that are in use
unfoldable pub used_buckets : List (ℕ × Option ℕ) → List ℕ
used_buckets [] = []
used_buckets (x ∷ xs) = cond (in_use x.1) (x.0 ∷ used_buckets xs) (used_buckets xs)

-- the first of a list, or d
unfoldable pub first_or : ℕ → List ℕ → ℕ
first_or d [] = d
first_or d (x ∷ xs) = x

-- 48 bucket_incorrectly_set_in_freespace_btree (named bucket, number not free): where the run starts below the first bucket,
-- its start is named, as in the Rust, and counts as one more; else the first bucket in use is named
unfoldable pub set_findings : ℕ → ℕ → List ℕ → List Finding
set_findings first start used =
    when (ltb start first || ltb 0 (length used))
    (finding 48 (cond (ltb start first) start (first_or start used)) (length used + cond (ltb start first) 1 0))

-- 47 freespace_entry_for_nonexistent_bucket (run offset, size), or what the run's buckets give
unfoldable pub run_findings : Book → Bkey → List Finding
run_findings b k =
    cond (no_run b.header k) (finding 47 (run_end k) k.size ∷ [])
    (set_findings b.header.first_bucket (run_start k) (used_buckets (alloc_range (run_start k) (run_end k) b.alloc)))

-- a run as a pair of start, at least the first bucket, and end
unfoldable pub held_run : Header → Bkey → List ℕ
held_run h k = cond (no_run h k) [] (pair (max (run_start k) h.first_bucket) (run_end k) ∷ [])

-- the pairs of all runs, those of size 0 too
unfoldable pub held_runs : Book → List Bkey → List ℕ
held_runs b [] = []
held_runs b (k ∷ ks) = cond (is_run k) (held_run b.header k) [] ++ held_runs b ks

-- the stretches from `at` up to the device's last bucket that no run of a sorted list holds
unfoldable pub gaps : ℕ → List ℕ → ℕ → List (ℕ × ℕ)
gaps at [] buckets = cond (ltb at buckets) ((at, buckets) ∷ []) []
gaps at (p ∷ ps) buckets =
    let rest = gaps (max at (p % 2 ^ 64)) ps buckets in
    cond (ltb at (p / 2 ^ 64)) ((at, p / 2 ^ 64) ∷ rest) rest

-- in a gap from `at` up to `to` with these alloc entries: 50 hole_in_alloc_btree_missing_in_freespace_btree (first, end) where no entry is,
-- 49 bucket_incorrectly_unset_in_freespace_btree (bucket, 0) for a free one
unfoldable pub gap_findings : ℕ → List (ℕ × Option ℕ) → ℕ → List Finding
gap_findings at [] to = when (ltb at to) (finding 50 at to)
gap_findings at (x ∷ xs) to =
    when (ltb at x.0) (finding 50 at x.0) ++ (when (is_free x.1) (finding 49 x.0 0) ++ gap_findings (suc x.0) xs to)

-- the runs in key order, then the gaps
unfoldable pub free_space : Book → List Finding
free_space b =
    each (λ _ k. only (is_run k) (run_findings b k)) 0 b.keys
    ++ each (λ _ g. gap_findings g.0 (alloc_range g.0 g.1 b.alloc) g.1) 0
    (gaps b.header.first_bucket (sort (held_runs b b.keys)) b.header.buckets)
