-- Findings, their bytes, the buffer that they are put into, and how the list of a rule's findings is said.
use Rattle.std.specs.Prelude.{◌≡◌, ℕ, zero, suc, ◌+◌, ◌*◌, ◌/◌, ◌%◌, ◌^◌, ◌<◌, min, Bool, true, false, cond, List, [], ◌∷◌, ◌++◌, length, take, drop, ◌==◌, nat_le, slice_index, slice_set}

-- a finding: its kind, and the two numbers that it names
pub record Finding : Type 0 where
  pub kind : ℕ
  pub subject : ℕ
  pub object : ℕ

-- the finding of a kind, a subject and an object
abbrev pub finding : ℕ → ℕ → ℕ → Finding
finding k s o = record { kind = k; subject = s; object = o }

-- x in w bytes: "packed, most significant bit first"
unfoldable pub bytes_of : ℕ → ℕ → List ℕ
bytes_of zero x = []
bytes_of (suc w) x = x / 256 ^ w % 256 ∷ bytes_of w x

-- "A finding is 17 bytes, packed likewise: kind 8, subject 64, object 64."
unfoldable pub encode : Finding → List ℕ
encode f = bytes_of 1 f.kind ++ (bytes_of 8 f.subject ++ bytes_of 8 f.object)

-- their numbers are within these widths, so that they can be read back from their bytes
unfoldable pub Encodable : List Finding → Type 0
Encodable [] = Unit {0}
Encodable (f ∷ fs) = (f.kind < 2 ^ 8) × (f.subject < 2 ^ 64) × (f.object < 2 ^ 64) × Encodable fs

-- the bytes of the findings, one after the other: "findings first in the buffer"
unfoldable pub encode_all : List Finding → List ℕ
encode_all [] = []
encode_all (f ∷ fs) = encode f ++ encode_all fs

-- the buffer o with the findings put into it: "the buffer holds the whole findings that fit, from the first, other bytes untouched"
unfoldable pub put : List ℕ → List Finding → List ℕ
put o [] = o
put o (f ∷ fs) = cond (nat_le 17 (length o)) (encode f ++ put (drop 17 o) fs) o

-- where "the rest of the findings buffer" begins after n findings, in a buffer of len bytes: at its end, if those n do not all fit
abbrev pub start : ℕ → ℕ → ℕ
start len n = min (17 * n) len

-- "Each rule writes into the rest of the findings buffer": the buffer o with the findings put into what n findings leave of it
unfoldable pub put_from : List ℕ → ℕ → List Finding → List ℕ
put_from o n fs = take (start (length o) n) o ++ put (drop (start (length o) n) o) fs

-- the counts by kind c with n more of kind k, where they have a place for it; a count wraps at 2^64, so that no bound has to be carried
unfoldable pub bump : List ℕ → ℕ → ℕ → List ℕ
bump c k n = slice_set c k ((slice_index c k + n) % 2 ^ 64)

-- the counts by kind c with those of the findings
unfoldable pub count_all : List ℕ → List Finding → List ℕ
count_all c [] = c
count_all c (f ∷ fs) = count_all (bump c f.kind 1) fs

-- how many of the findings are of kind k
unfoldable pub count_of : ℕ → List Finding → ℕ
count_of k [] = 0
count_of k (f ∷ fs) = cond (k == f.kind) (suc (count_of k fs)) (count_of k fs)

-- the counts, which were c and are c' now, have each kind's number of findings, where they have a place for the kind and it was 0
abbrev pub Counted : List ℕ → List Finding → List ℕ → Type 0
Counted c fs c' = (k : ℕ) → k < length c → slice_index c k ≡ 0 → slice_index c' k ≡ count_of k fs

-- what findings go into: the buffer, and the counts by kind, the count of kind k at place k
pub record Sink : Type 0 where
  pub buffer : List ℕ
  pub counts : List ℕ

-- the sink of a buffer and counts
abbrev pub sink : List ℕ → List ℕ → Sink
sink b c = record { buffer = b; counts = c }

-- a rule found fs: "the full count" r, fitting or not, and the sink, which was o and is o' now
pub record Found (o : Sink) (fs : List Finding) (r : ℕ) (o' : Sink) : Type 0 where
  pub count : r ≡ length fs
  pub buffer : o'.buffer ≡ put o.buffer fs
  pub counts : o'.counts ≡ count_all o.counts fs
  pub encodable : Encodable fs

-- after n findings came fs: the count is r now, and the sink, which was o, is o'
pub record Added (o : Sink) (n : ℕ) (fs : List Finding) (r : ℕ) (o' : Sink) : Type 0 where
  pub count : r ≡ n + length fs
  pub buffer : o'.buffer ≡ put_from o.buffer n fs
  pub counts : o'.counts ≡ count_all o.counts fs
  pub encodable : Encodable fs

-- one finding where the test holds, else none
unfoldable pub when : Bool → Finding → List Finding
when true f = f ∷ []
when false f = []

-- these findings where the test holds, else none
unfoldable pub only : Bool → List Finding → List Finding
only true fs = fs
only false fs = []

-- what is found at each item of a list, in order: "Each key in turn"; `at` is handed the item's index, counted from i, and the item
unfoldable pub each : {A : Type 0} → (ℕ → A → List Finding) → ℕ → List A → List Finding
each at i [] = []
each at i (x ∷ xs) = at i x ++ each at (suc i) xs

-- the items that pass a test, in order: "a btree's keys in book order"
unfoldable pub keep : {A : Type 0} → (A → Bool) → List A → List A
keep test [] = []
keep test (x ∷ xs) = cond (test x) (x ∷ keep test xs) (keep test xs)
