-- Examples of alloc_v4 values, of replicas and of counters, by computing.
use mathlib.Core.Path.{◌≡◌, refl}
use mathlib.Core.Bool.{Bool, true, false}
use mathlib.Core.List.{List, [], ◌∷◌, ◌++◌, map}
use Prim.Native.Nat.{ℕ, ◌/◌}
use lib.ListN.{replicate}
use Rattle.bits.specs.Bits.{le_at}
use Rattle.findings.specs.Findings.{finding, when, only, bytes_of}
use Rattle.book.specs.Book.{Bkey, is}
use Rattle.fields.specs.CheckKeyFields.{has_row, size_zero, snapshot_zero, minimum_value, accounting_position_bytes, accounting_kind, replicas_end, accounting_fields, some_nonzero, some_not_rising, replicas_entry_refused, counters_bad, check_accounting_key, backpointers_start, alloc_v4_bytes, check_alloc_v4_value, accounting_junk, check_position, check_key_fields}

zeros : ℕ → List ℕ
zeros n = replicate n 0

-- an alloc_v4 value of 48 bytes with start field 0 and one backpointer
pointer : List ℕ
pointer = zeros 9 ++ (1 ∷ zeros 38)

-- an alloc_v4 key, and an accounting key with one counter
alloc : List ℕ → Bkey
alloc value = record { btree = 4; key_type = 27; size = 0; inode = 0; offset = 1; snapshot = 0; value = value }

accounting : ℕ → Bkey
accounting inode = record { btree = 20; key_type = 34; size = 0; inode = inode; offset = 0; snapshot = 0; value = zeros 8 }

-- replicas on devices 3, 4 are the last
keys : List Bkey
keys =
    alloc (zeros 47) ∷ alloc (zeros 48) ∷ alloc pointer ∷ alloc (pointer ++ zeros 31) ∷ alloc (pointer ++ zeros 32) ∷ accounting 0x0201020103040000 ∷ []

examples : map (check_key_fields 7) keys ≡
    (finding 12 7 0 ∷ []) ∷ [] ∷ (finding 12 7 0 ∷ []) ∷ (finding 12 7 0 ∷ []) ∷ [] ∷ [] ∷ []
unfolding zeros pointer alloc accounting keys le_at bytes_of when only is has_row size_zero snapshot_zero minimum_value accounting_position_bytes accounting_kind replicas_end accounting_fields some_nonzero some_not_rising replicas_entry_refused counters_bad check_accounting_key backpointers_start alloc_v4_bytes check_alloc_v4_value accounting_junk check_position check_key_fields
examples = refl

-- values of 0, 7, 8, 31, 32, 33 and 2,047 bytes
judged : ℕ → List Bool
judged kind = map (λ (bytes : ℕ). counters_bad kind (bytes / 8)) (0 ∷ 7 ∷ 8 ∷ 31 ∷ 32 ∷ 33 ∷ 2047 ∷ [])

-- of kinds replicas and dev_data_type
counters : map judged (2 ∷ 3 ∷ []) ≡
    (true ∷ true ∷ false ∷ false ∷ true ∷ true ∷ true ∷ []) ∷ (false ∷ false ∷ false ∷ false ∷ true ∷ true ∷ true ∷ []) ∷ []
unfolding judged counters_bad
counters = refl
