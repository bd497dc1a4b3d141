-- The parts of the rule `check_key_fields` that a function each judges, and what the smaller functions return.
use Rattle.std.specs.Prelude.{ℕ, ◌+◌, ◌*◌, ◌≢◌, Bool, not, ◌&&◌, ◌||◌, List, [], ◌∷◌, ◌++◌, length, drop, eqb, ltb, Option, None, Some}
use Rattle.findings.specs.declared.kind.Kind.{Kind}
use Rattle.findings.specs.Findings.{Finding, finding, when, only}
use Rattle.findings.specs.Reports.{kind_number}
use Rattle.book.specs.Book.{Bkey, bkey, is}
use Rattle.fields.specs.declared.Judged.{Judged}
use Rattle.fields.specs.declared.AccountingKind.{AccountingKind}
use Rattle.fields.specs.declared.AccountingKind.TheVariants.{NrInodes, Replicas, DevDataType, Snapshot, Btree}
use Rattle.fields.specs.CheckKeyFields.{has_row, size_zero, snapshot_zero, minimum_value, accounting_fields, some_nonzero, check_accounting_key, check_inode_v3_word, check_snapshot_pad, check_alloc_v4_value}

-- a btree and a type as one number
abbrev pub pair_of : ℕ → ℕ → ℕ
pair_of btree key_type = btree * 256 + key_type

-- the key that is judged
abbrev pub judged : Judged → Bkey
judged key = bkey key.head key.value.now

-- the kinds of accounting keys by number: nr_inodes, replicas, dev_data_type, snapshot and btree
abbrev pub accounting_number : AccountingKind → ℕ
accounting_number NrInodes = 0
accounting_number Replicas = 2
accounting_number DevDataType = 3
accounting_number Snapshot = 5
accounting_number Btree = 6

-- the number of nr_inodes, replicas or dev_data_type
abbrev pub is_counted : ℕ → Bool
is_counted number = eqb number 0 || (eqb number 2 || eqb number 3)

-- the number of none of these
abbrev pub IsOther : ℕ → Type 0
IsOther number = (number ≢ 0) × (number ≢ 2) × (number ≢ 3) × (number ≢ 5) × (number ≢ 6)

-- a size on a key that has none
unfoldable pub size_bad : Bkey → Bool
size_bad k = not (eqb k.size 0) && has_row size_zero k.btree k.key_type

-- a snapshot on a key that is in none
unfoldable pub snapshot_bad : Bkey → Bool
snapshot_bad k = not (eqb k.snapshot 0) && has_row snapshot_zero k.btree k.key_type

-- kinds 3 to 5: size, snapshot and length of the value
unfoldable pub check_head : ℕ → Bkey → List Finding
check_head i k =
    when (size_bad k) (finding 3 i 0)
    ++ (when (snapshot_bad k) (finding 4 i 0) ++ when (ltb (length k.value) (minimum_value k)) (finding 5 i 0))

-- kinds 6 to 12: accounting keys, inodes, snapshots and alloc keys
unfoldable pub check_value : ℕ → Bkey → List Finding
check_value i k =
    only (is 20 34 k) (check_accounting_key i k)
    ++ (only (is 1 29 k) (check_inode_v3_word i k) ++ (only (is 9 22 k) (check_snapshot_pad i k) ++ only (is 4 27 k) (check_alloc_v4_value i k)))

-- some byte of the position is not 0 after the fields of the kind
unfoldable pub junk_at_end : ℕ → List ℕ → Bool
junk_at_end kind bytes = some_nonzero (drop (accounting_fields kind bytes) bytes)

-- the finding of a kind, if there is one
abbrev pub kind_found : ℕ → Option Kind → List Finding
kind_found i None = []
kind_found i (Some kind) = finding (kind_number kind) i 0 ∷ []
