-- The rule `check_key_fields` (document 01, kinds 3 to 21) and the functions that it calls. Subject is the key's index,
-- object 0. Kind 22 is given by `check_key_type` (document 02, ticket 4).
use Rattle.std.specs.Prelude.{ℕ, ◌+◌, ◌*◌, ◌/◌, ◌%◌, ◌^◌, min, Bool, false, cond, not, ◌&&◌, ◌||◌, List, [], ◌∷◌, ◌++◌, length, get_or, take, drop, eqb, ltb, leb}
use Rattle.bits.specs.Bits.{le_at}
use Rattle.findings.specs.Findings.{Finding, finding, when, only, bytes_of}
use Rattle.book.specs.Book.{Bkey, is}

-- whether a table of btrees and types has a row of these
unfoldable pub has_row : List (ℕ × ℕ) → ℕ → ℕ → Bool
has_row [] btree key_type = false
has_row (row ∷ rows) btree key_type = (eqb row.0 btree && eqb row.1 key_type) || has_row rows btree key_type

-- SIZE_ZERO: the btrees and types whose keys have no size
unfoldable pub size_zero : List (ℕ × ℕ)
size_zero =
    (1, 29) ∷ (2, 10) ∷ (3, 11) ∷ (8, 21) ∷ (10, 25) ∷ (13, 28) ∷ (14, 30) ∷ (15, 31) ∷ (17, 35) ∷ (20, 34) ∷ (9, 22) ∷ (19, 25) ∷ (12, 25) ∷ (4, 27)
    ∷ (18, 25) ∷ []

-- SNAPSHOT_ZERO: the btrees and types whose keys are in no snapshot
unfoldable pub snapshot_zero : List (ℕ × ℕ)
snapshot_zero =
    (8, 21) ∷ (9, 22) ∷ (10, 25) ∷ (12, 25) ∷ (11, 25) ∷ (17, 35) ∷ (15, 31) ∷ (13, 28) ∷ (14, 30) ∷ (19, 25) ∷ (7, 16) ∷ []

-- the least number of value bytes of a backpointer, a snapshot and a subvolume; 0 for every other key
unfoldable pub minimum_value : Bkey → ℕ
minimum_value k = cond (is 13 28 k) 32 (cond (is 9 22 k) 24 (cond (is 8 21 k) 16 0))

-- ---- accounting keys

-- the position's 20 bytes: inode, offset and snapshot, big-endian
unfoldable pub accounting_position_bytes : Bkey → List ℕ
accounting_position_bytes k = bytes_of 8 k.inode ++ (bytes_of 8 k.offset ++ bytes_of 4 k.snapshot)

-- the kind of an accounting key: the first byte of its position
unfoldable pub accounting_kind : Bkey → ℕ
accounting_kind k = k.inode / 2 ^ 56

-- where the devices of a replicas entry end: four bytes, then as many devices as the third byte says, cut at the position's end
unfoldable pub replicas_end : List ℕ → ℕ
replicas_end bytes = min (4 + get_or bytes 2 0) 20

-- how many bytes of the position the kind's fields take: nr_inodes (0) 1, replicas (2) up to the last device, dev_data_type (3) 3
unfoldable pub accounting_fields : ℕ → List ℕ → ℕ
accounting_fields kind bytes = cond (eqb kind 0) 1 (cond (eqb kind 2) (replicas_end bytes) 3)

-- some byte is not 0
unfoldable pub some_nonzero : List ℕ → Bool
some_nonzero [] = false
some_nonzero (b ∷ bs) = not (eqb b 0) || some_nonzero bs

-- some number is not below the next
unfoldable pub some_not_rising : List ℕ → Bool
some_not_rising [] = false
some_not_rising (a ∷ []) = false
some_not_rising (a ∷ b ∷ bs) = leb b a || some_not_rising (b ∷ bs)

-- a replicas entry (kind, data type, nr_devs, nr_required, devices) with no devices, with more than one copy required and not fewer
-- than there are devices, or with devices that do not rise
unfoldable pub replicas_entry_refused : List ℕ → Bool
replicas_entry_refused bytes =
    eqb (get_or bytes 2 0) 0
    || ((ltb 1 (get_or bytes 3 0) && leb (get_or bytes 2 0) (get_or bytes 3 0)) || some_not_rising (drop 4 (take (replicas_end bytes) bytes)))

-- a number of counters that is none (but for dev_data_type) or above three
unfoldable pub counters_bad : ℕ → ℕ → Bool
counters_bad kind counters = ltb 3 counters || (eqb counters 0 && not (eqb kind 3))

-- 6 accounting_key_junk_at_end, 7 accounting_replicas_bad, 8 accounting_key_counters_bad: kinds nr_inodes, replicas and dev_data_type alone
unfoldable pub check_accounting_key : ℕ → Bkey → List Finding
check_accounting_key i k =
    let kind = accounting_kind k in
    let bytes = accounting_position_bytes k in
    only (eqb kind 0 || (eqb kind 2 || eqb kind 3))
    (when (some_nonzero (drop (accounting_fields kind bytes) bytes)) (finding 6 i 0)
    ++ (when (eqb kind 2 && replicas_entry_refused bytes) (finding 7 i 0)
    ++ when (counters_bad kind (length k.value / 8)) (finding 8 i 0)))

-- ---- values

-- 9 inode_str_hash_invalid, 10 inode_fields_start_bad: in the 64-bit word at 16, bits 20 to 23 above 3; and twice bits 32 to 35 below 6, or
-- above the value's words of 8 bytes. Values below 48 bytes are not judged.
unfoldable pub check_inode_v3_word : ℕ → Bkey → List Finding
check_inode_v3_word i k =
    let word = le_at k.value 16 8 in
    let start = 2 * (word / 2 ^ 32 % 16) in
    only (leb 48 (length k.value))
    (when (leb 4 (word / 2 ^ 20 % 16)) (finding 9 i 0) ++ when (ltb start 6 || ltb (length k.value / 8) start) (finding 10 i 0))

-- 11 snapshot_pad_nonzero: the pad word at 60, where the value has it
unfoldable pub check_snapshot_pad : ℕ → Bkey → List Finding
check_snapshot_pad i k = when (leb 64 (length k.value) && not (eqb (le_at k.value 60 4) 0)) (finding 11 i 0)

-- where the backpointers of an alloc_v4 value start, in words of 8 bytes, by its start field
unfoldable pub backpointers_start : ℕ → ℕ
backpointers_start field = cond (eqb field 0) 6 field

-- the bytes that an alloc_v4 value needs: 48, or what its flags at 8 say: start field bits 2 to 7, backpointers bits 8 to 13, 4 words each
unfoldable pub alloc_v4_bytes : List ℕ → ℕ
alloc_v4_bytes value =
    let flags = le_at value 8 4 in
    cond (ltb (length value) 48) 48 ((backpointers_start (flags / 4 % 64) + 4 * (flags / 256 % 64)) * 8)

-- 12 alloc_v4_val_size_bad
unfoldable pub check_alloc_v4_value : ℕ → Bkey → List Finding
check_alloc_v4_value i k = when (ltb (length k.value) (alloc_v4_bytes k.value)) (finding 12 i 0)

-- ---- the rest: at most one for a key, by its btree and type

-- not at `0:id` with a 32-bit id other than 0
unfoldable pub bad_id : Bkey → Bool
bad_id k = eqb k.offset 0 || (ltb 4294967295 k.offset || not (eqb k.inode 0))

-- the index of a reflink_p value (the low 56 bits of its first word) is below its front_pad (the 32-bit word at 8)
unfoldable pub front_pad_bad : List ℕ → Bool
front_pad_bad value = leb 16 (length value) && ltb (le_at value 0 8 % 2 ^ 56) (le_at value 8 4)

-- an accounting key of kind btree (6) that holds more than the btree's id, or of kind snapshot (5) with an offset
unfoldable pub accounting_junk : Bkey → Bool
accounting_junk k =
    (eqb (accounting_kind k) 6 && (not (eqb (k.inode % 2 ^ 48) 0) || (not (eqb k.offset 0) || not (eqb k.snapshot 0))))
    || (eqb (accounting_kind k) 5 && not (eqb k.offset 0))

-- the level of a backpointer, byte 1 of its value, is above 4
unfoldable pub level_bad : List ℕ → Bool
level_bad value = leb 2 (length value) && ltb 4 (get_or value 1 0)

-- an xattr's name (byte 1 its length) and value (16 bits at 2) after a header of 4 bytes do not fit the key's value
unfoldable pub xattr_short : List ℕ → Bool
xattr_short value = leb 4 (length value) && ltb (length value) (4 + get_or value 1 0 + le_at value 2 2)

-- 13 inode_pos_inode_nonzero, 14 subvol_pos_bad, 15 snapshot_pos_bad, 16 reflink_v_pos_bad, 17 reflink_p_front_pad_bad,
-- 18 inode_alloc_cursor_inode_bad, 19 snapshot_tree_pos_bad, 6 accounting_key_junk_at_end, 20 backpointer_level_bad,
-- 21 xattr_val_size_too_small
unfoldable pub check_position : ℕ → Bkey → List Finding
check_position i k =
    when (is 1 29 k && not (eqb k.inode 0)) (finding 13 i 0)
    ++ (when (is 8 21 k && bad_id k) (finding 14 i 0)
    ++ (when (is 9 22 k && bad_id k) (finding 15 i 0)
    ++ (when (is 7 16 k && not (eqb k.inode 0)) (finding 16 i 0)
    ++ (when (is 0 15 k && front_pad_bad k.value) (finding 17 i 0)
    ++ (when (is 17 35 k && not (eqb k.inode 1)) (finding 18 i 0)
    ++ (when (is 15 31 k && bad_id k) (finding 19 i 0)
    ++ (when (is 20 34 k && accounting_junk k) (finding 6 i 0)
    ++ (when (is 13 28 k && level_bad k.value) (finding 20 i 0)
    ++ when (is 3 11 k && xattr_short k.value) (finding 21 i 0)))))))))

-- 3 bkey_size_nonzero, 4 bkey_snapshot_nonzero, 5 bkey_val_size_too_small, and the parts above
unfoldable pub check_key_fields : ℕ → Bkey → List Finding
check_key_fields i k =
    when (not (eqb k.size 0) && has_row size_zero k.btree k.key_type) (finding 3 i 0)
    ++ (when (not (eqb k.snapshot 0) && has_row snapshot_zero k.btree k.key_type) (finding 4 i 0)
    ++ (when (ltb (length k.value) (minimum_value k)) (finding 5 i 0)
    ++ (only (is 20 34 k) (check_accounting_key i k)
    ++ (only (is 1 29 k) (check_inode_v3_word i k)
    ++ (only (is 9 22 k) (check_snapshot_pad i k)
    ++ (only (is 4 27 k) (check_alloc_v4_value i k)
    ++ check_position i k))))))
