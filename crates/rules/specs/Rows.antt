-- The rows of document 01 that are marked †, as one table, those on parents also for drawn ones; the theorem is in proofs/Rows.antt.
use Rattle.std.specs.Prelude.{ℕ, zero, suc, ◌+◌, ◌*◌, ◌/◌, ◌%◌, ◌^◌, Bool, true, false, List, [], ◌∷◌, ◌++◌, map, replicate, None, Option, Some}
use Rattle.findings.specs.Findings.{Finding}
use Rattle.book.specs.Book.{Bkey, Book}
use Rattle.book.specs.KeyMaps.{parents_of}
use Rattle.fields.specs.CheckKeyFields.{alloc_v4_bytes, check_key_fields}
use Rattle.states.specs.StateDistance.{state_distance, subvol_states}
use Rattle.states.specs.CheckStateWords.{check_state_words}
use Rattle.parents.specs.Roots.{root_of}
use Rattle.buckets.specs.FreeSpace.{free_space}

-- a row: the numbers that the definitions give, and those that document 01 says
pub record Row : Type 0 where
  pub given : List ℕ
  pub said : List ℕ

-- the row of these
abbrev pub row : List ℕ → List ℕ → Row
row given said = record { given = given; said = said }

-- the kinds of findings
unfoldable pub kinds : List Finding → List ℕ
kinds fs = map (λ (f : Finding). f.kind) fs

-- a root and the links to it, or nothing
unfoldable pub numbers : Option (ℕ × ℕ) → List ℕ
numbers None = []
numbers (Some r) = r.0 ∷ r.1 ∷ []

abbrev zeros : ℕ → List ℕ
zeros n = replicate n 0

abbrev key : ℕ → ℕ → ℕ → ℕ → List ℕ → Bkey
key btree key_type inode offset value = record { btree = btree; key_type = key_type; size = 0; inode = inode; offset = offset; snapshot = 0; value = value }

-- a 32-bit word in bytes, little-endian
unfoldable pub word : ℕ → List ℕ
word x = x % 256 ∷ x / 2 ^ 8 % 256 ∷ x / 2 ^ 16 % 256 ∷ x / 2 ^ 24 ∷ []

-- a subvolume with this state word, at 40
unfoldable pub subvolume : ℕ → Bkey
subvolume state = key 8 21 0 1 (zeros 40 ++ word state)

-- the kinds that it gives in a book of this version
unfoldable pub state_kinds : ℕ → ℕ → List ℕ
state_kinds version word = kinds (check_state_words version 0 (subvolume word))

-- an alloc_v4 key with this value, and the kinds that it gives
unfoldable pub alloc_v4_kinds : List ℕ → List ℕ
alloc_v4_kinds value = kinds (check_key_fields 0 (key 4 27 0 1 value))

-- 48 bytes with start field 0 and one backpointer, in bits 8 to 13 of the flags at 8
unfoldable pub one_pointer : List ℕ
one_pointer = zeros 9 ++ (1 ∷ zeros 38)

-- an accounting key of replicas (2) with data type 1, two devices, one required and these two; it has one counter
unfoldable pub replicas : ℕ → ℕ → Bkey
replicas a b = key 20 34 ((((((2 * 256 + 1) * 256 + 2) * 256 + 1) * 256 + a) * 256 + b) * 2 ^ 16) 0 (zeros 8)

-- ids 1 to n, each with the one before it as its parent, from `last` on
unfoldable pub line : ℕ → ℕ → List (ℕ × ℕ)
line last zero = []
line last (suc n) = (suc last, last) ∷ line (suc last) n

-- the root above the last of n ids in a line, n - 1 links away
unfoldable pub line_root : ℕ → List ℕ
line_root n = numbers (root_of (line 0 n) n)

-- a book of device 0 with first bucket 1, four buckets, the drawn mark or not, and these keys, n in number
abbrev pub book : Bool → ℕ → List Bkey → Book
book drawn n keys = record {
  header = record {
    layout = 1;
    trees = true;
    drawn = drawn;
    spare = 0;
    version = 1063;
    first_bucket = 1;
    keys = n;
    device = 0;
    buckets = 4;
    parents = 0;
    subvolumes = 0;
    gens = 0;
    alloc = 0;
  };
  parents = [];
  subvolumes = [];
  gens = [];
  alloc = [];
  keys = keys;
}

-- a hole from bucket 1 up to 4, and one key: a run of size 0 at bucket 2
unfoldable pub hole : Book
hole = book false 1 (key 11 25 0 2 [] ∷ [])

-- a snapshot of 8 value bytes with this parent word
unfoldable pub snapshot : ℕ → ℕ → Bkey
snapshot id parent = key 9 22 0 id (zeros 4 ++ word parent)

-- snapshots n down to 1, each with the one below it as its parent
unfoldable pub snapshots : ℕ → List Bkey
snapshots zero = []
snapshots (suc n) = snapshot (suc n) n ∷ snapshots n

-- the root above the last of these, n - 1 links away, by drawn parents
unfoldable pub drawn_root : ℕ → List ℕ
drawn_root n = numbers (root_of (parents_of (book true n (snapshots n))) n)

-- the root above snapshot 7 that is its own parent, likewise
unfoldable pub own_root : List ℕ
own_root = numbers (root_of (parents_of (book true 1 (snapshot 7 7 ∷ []))) 7)

-- a finding as three numbers, and the numbers of findings
unfoldable pub flat : List Finding → List ℕ
flat [] = []
flat (f ∷ fs) = f.kind ∷ f.subject ∷ f.object ∷ flat fs

-- document 01's rows
unfoldable pub marked : List Row
marked =
    -- "subvolume states 0x4ad5447d † kind 26"
    row (state_kinds 1062 0x4ad5447d) (26 ∷ [])
    ∷ row (state_kinds 1063 0x4ad5447d) (26 ∷ [])
    -- "0x4ad54479 † nothing at 1,062, 25 at 1,063"
    ∷ row (state_kinds 1062 0x4ad54479) []
    ∷ row (state_kinds 1063 0x4ad54479) (25 ∷ [])
    -- "0x4ad54441 † six bits", and so "3 to 6 kind 25 from 1,063"
    ∷ row ((state_distance 0x4ad54441 subvol_states).distance ∷ []) (6 ∷ [])
    ∷ row (state_kinds 1062 0x4ad54441) []
    ∷ row (state_kinds 1063 0x4ad54441) (25 ∷ [])
    -- "0x4ad54401 † 27"
    ∷ row (state_kinds 1062 0x4ad54401) (27 ∷ [])
    ∷ row (state_kinds 1063 0x4ad54401) (27 ∷ [])
    -- "Alloc_v4 of 47 bytes † needs 48; 48 bytes with start field 0 and one backpointer † needs 80", and so both give 12 and not with the bytes they need
    ∷ row (alloc_v4_bytes (zeros 47) ∷ []) (48 ∷ [])
    ∷ row (alloc_v4_kinds (zeros 47)) (12 ∷ [])
    ∷ row (alloc_v4_kinds (zeros 48)) []
    ∷ row (alloc_v4_bytes one_pointer ∷ []) (80 ∷ [])
    ∷ row (alloc_v4_kinds one_pointer) (12 ∷ [])
    ∷ row (alloc_v4_kinds (one_pointer ++ zeros 32)) []
    -- "Replicas on devices 3, 3 † kind 7"
    ∷ row (kinds (check_key_fields 0 (replicas 3 3))) (7 ∷ [])
    -- "Chains of 1,024 links † root, 1,025 † none"
    ∷ row (line_root 1025) (1 ∷ 1024 ∷ [])
    ∷ row (line_root 1026) []
    -- "Parent 7 of 7 † none"
    ∷ row (numbers (root_of ((7, 7) ∷ []) 7)) []
    -- "A run of size 0 over a hole † splits it"
    ∷ row (flat (free_space hole)) (50 ∷ 1 ∷ 2 ∷ 50 ∷ 2 ∷ 4 ∷ [])
    ∷ []

-- those on parents, by drawn parents (document 02, ticket 2)
unfoldable pub drawn_marked : List Row
drawn_marked = row (drawn_root 1025) (1 ∷ 1024 ∷ []) ∷ row (drawn_root 1026) [] ∷ row own_root [] ∷ []

-- THE TABLE
unfoldable pub rows : List Row
rows = marked ++ drawn_marked
