-- What only contracts of private functions cite.
use Rattle.std.specs.Prelude.{ℕ, ◌+◌, ◌-◌, ◌*◌, ◌/◌, ◌%◌, ◌^◌, ◌≤◌, ◌<◌, min, max, ◌≡◌, Bool, false, cond, not, List, [], ◌∷◌, ◌++◌, length, get_or, eqb, ltb, None, Option, Some}
use Rattle.std.specs.Coded.{Π_prop, ×_prop, Coded-set, coded_ℕ}
use Rattle.findings.specs.Findings.{Finding, finding, when, only, each}
use Rattle.book.specs.declared.AllocEntry.{AllocEntry}
use Rattle.book.specs.Maps.{lower_bound}
use Rattle.book.specs.Book.{Bkey, Book, alloc_from}
use Rattle.buckets.specs.declared.Range.{Range}
use Rattle.buckets.specs.declared.Used.{Used}
use Rattle.buckets.specs.FreeSpace.{is_run, held_run, used_buckets, first_or, alloc_range, gap_findings}

-- the pair of start and end that a run gives
unfoldable pub run_pair : Book → ℕ → Bkey → List ℕ
run_pair b p k = cond (is_run k) (held_run b.header k) []

-- where the entries of an alloc table at byte p stand that are for the buckets from a up to e
unfoldable pub range_of : ℕ → List (ℕ × Option ℕ) → ℕ → ℕ → Range
range_of p alloc a e = record { start = p + lower_bound a alloc * 10; low = lower_bound a alloc; count = lower_bound e alloc - lower_bound a alloc }

-- `in_use` and `is_free` by the enum
unfoldable pub in_use_of : Option ℕ → Bool
in_use_of (Some t) = not (eqb t 0)
in_use_of None = false

unfoldable pub is_free_of : Option ℕ → Bool
is_free_of (Some t) = eqb t 0
is_free_of None = false

-- the buckets in use of alloc entries: their number, and the first of them, or d
unfoldable pub used_of : ℕ → List (ℕ × Option ℕ) → Used
used_of d xs = record { count = length (used_buckets xs); first = first_or d (used_buckets xs) }

-- the same with one entry more in front
unfoldable pub used_with : AllocEntry → Used → Used
used_with e u = cond (in_use_of e.data_type) (record { count = u.count + 1; first = e.bucket }) u

-- those of the entries from number i on of the `count` at byte p
abbrev pub used_from : List ℕ → ℕ → ℕ → ℕ → Used
used_from s p count i = used_of 0 (alloc_from s (count - i) (p + i * 10))

-- each pair of words of a list is, for its number k, the number and the first bucket in use from entry 256 * k on
unfoldable pub Marked : List ℕ → ℕ → ℕ → List ℕ → Type 0
Marked s p count m =
    (k : ℕ) → 2 * k + 2 ≤ length m
    → (get_or m (2 * k) 0 ≡ (used_from s p count (min (k * 256) count)).count) × (get_or m (2 * k + 1) 0 ≡ (used_from s p count (min (k * 256) count)).first)

pub marked_prop : (s : List ℕ) (p count : ℕ) (m : List ℕ) → IsProp (Marked s p count m)
unfolding Marked
marked_prop s p count m = Π_prop (λ k. Π_prop (λ _. ×_prop (Coded-set coded_ℕ _ _) (Coded-set coded_ℕ _ _)))

-- every bucket is below e
unfoldable pub Below : ℕ → List (ℕ × Option ℕ) → Type 0
Below e [] = Unit {0}
Below e (x ∷ xs) = (x.0 < e) × Below e xs

-- what an entry gives in a gap, of which the buckets up to `at` are passed
unfoldable pub entry_findings : ℕ → AllocEntry → List Finding
entry_findings at e = when (ltb at e.bucket) (finding 50 at e.bucket) ++ when (is_free_of e.data_type) (finding 49 e.bucket 0)

-- what the buckets from a up to e give, if there are any
unfoldable pub gap_of : List (ℕ × Option ℕ) → ℕ → ℕ → List Finding
gap_of alloc a e = only (ltb a e) (gap_findings a (alloc_range a e alloc) e)

-- what gaps give
unfoldable pub gaps_findings : List (ℕ × Option ℕ) → List (ℕ × ℕ) → List Finding
gaps_findings alloc gs = each (λ _ g. gap_findings g.0 (alloc_range g.0 g.1 alloc) g.1) 0 gs

-- no pair starts past both its end and the first bucket
unfoldable pub Fair : ℕ → List ℕ → Type 0
Fair first ps = (k : ℕ) → k < length ps → get_or ps k 0 / 2 ^ 64 ≤ max first (get_or ps k 0 % 2 ^ 64)
