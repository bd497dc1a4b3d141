-- What only contracts of private functions cite: the steps of `scan`.
use Rattle.std.specs.Prelude.{ℕ, zero, suc, ◌+◌, ◌-◌, ◌^◌, ◌≤◌, ◌<◌, ◌≡◌, Bool, true, ◌&&◌, List, ltb, Result, Ok, Err}
use Rattle.book.specs.declared.Header.{Header}
use Rattle.scan.specs.declared.HeaderStart.{HeaderStart}
use Rattle.scan.specs.declared.Counts.{Counts}
use Rattle.book.specs.declared.Places.{Places}
use Rattle.book.specs.declared.Table.{Table}
use Rattle.book.specs.declared.refusal.Refusal.{Refusal}
use Rattle.book.specs.Book.{words_table, entry_at}
use Rattle.book.specs.Refusals.{Verdict}

-- the fields of a header that stand in its first 8 bytes, and those in its last 8
abbrev pub start_of : Header → HeaderStart
start_of h = record {
  layout = h.layout;
  trees = h.trees;
  drawn = h.drawn;
  spare = h.spare;
  version = h.version;
  first_bucket = h.first_bucket;
  keys = h.keys;
}

abbrev pub counts_of : Header → Counts
counts_of h = record { parents = h.parents; subvolumes = h.subvolumes; gens = h.gens; alloc = h.alloc }

-- the entry before the one at byte p, if the table, which starts at byte start, has one, has this first field
abbrev pub FirstBefore : Table → List ℕ → ℕ → ℕ → ℕ → Type 0
FirstBefore t s start p first = start + t.size ≤ p → first ≡ (entry_at t s (p - t.size)).first

-- places that no sum of `scan` carries past a usize
abbrev pub Near : Places → Type 0
Near at = (at.parents < 2 ^ 31) × (at.subvolumes < 2 ^ 31) × (at.gens < 2 ^ 31) × (at.alloc < 2 ^ 31) × (at.keys < 2 ^ 31)

-- what is read at a place, or the refusal of what stands there
unfoldable pub given : {A : Type 0} → Verdict → A → Result A Refusal
given (Ok passed) x = Ok x
given (Err r) x = Err r

-- whether the first words of the n entries of two 32-bit words after the one at byte p rise, from that one's on
unfoldable pub words_rise : List ℕ → ℕ → ℕ → Bool
words_rise s zero p = true
words_rise s (suc n) p = ltb (entry_at words_table s p).first (entry_at words_table s (p + 8)).first && words_rise s n (p + 8)
