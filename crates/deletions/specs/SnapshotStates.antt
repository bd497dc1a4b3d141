-- The rule `snapshot_states` (document 01, kinds 33 to 35).
use Rattle.std.specs.Prelude.{ℕ, ◌/◌, ◌^◌, Bool, not, ◌&&◌, ◌||◌, List, ◌++◌, length, eqb, leb}
use Rattle.bits.specs.Bits.{le_at}
use Rattle.findings.specs.Findings.{Finding, finding, when, only, each, bytes_of}
use Rattle.book.specs.Book.{Bkey, Book, is}
use Rattle.walk.specs.Keys.{any_key}
use Rattle.states.specs.StateDistance.{snap_live, snap_will_delete, snap_no_keys, snap_deleted, subvol_live}

-- a snapshot (btree 9, type 22) whose value has a state word, at 56
unfoldable pub has_snap_state : Bkey → Bool
has_snap_state k = is 9 22 k && leb 60 (length k.value)

-- that word
unfoldable pub snap_state : Bkey → ℕ
snap_state k = le_at k.value 56 4

-- the live snapshot id
unfoldable pub live_snapshot : ℕ → Bkey → Bool
live_snapshot id k = has_snap_state k && (eqb k.offset id && eqb (snap_state k) snap_live)

-- the live subvolume id (btree 8, type 21; state word at 40)
unfoldable pub live_subvolume : ℕ → Bkey → Bool
live_subvolume id k = (is 8 21 k && leb 44 (length k.value)) && (eqb k.offset id && eqb (le_at k.value 40 4) subvol_live)

-- the four bytes after the kind in an accounting key's position, little-endian (an error to fall into is "reading accounting ids big-endian")
unfoldable pub accounted_id : Bkey → ℕ
accounted_id k = le_at (bytes_of 8 k.inode) 1 4

-- an accounting key (btree 20, type 34) of kind snapshot (5) with keys counted for id: the first counter is not 0
unfoldable pub accounted : ℕ → Bkey → Bool
accounted id k =
    (is 20 34 k && eqb (k.inode / 2 ^ 56) 5)
    && (eqb (accounted_id k) id && (leb 8 (length k.value) && not (eqb (le_at k.value 0 8) 0)))

-- the word at byte i of a snapshot names a live snapshot
unfoldable pub live_child : Book → Bkey → ℕ → Bool
live_child b k i = any_key (live_snapshot (le_at k.value i 4)) b.keys

-- its subvolume, the word at 16, is live
unfoldable pub subvolume_is_live : Book → Bkey → Bool
subvolume_is_live b k = any_key (live_subvolume (le_at k.value 16 4)) b.keys

-- of a snapshot that will be deleted: 33 snapshot_deleted_but_subvol_live, or else 34 snapshot_deleted_has_live_children (both children,
-- the words at 8 and 12); of one with no keys or deleted: 35 snapshot_deleted_but_has_data
unfoldable pub snapshot_state_findings : Book → Bkey → List Finding
snapshot_state_findings b k =
    only (eqb (snap_state k) snap_will_delete)
    (when (subvolume_is_live b k) (finding 33 k.offset 0)
    ++ when (not (subvolume_is_live b k) && (live_child b k 8 && live_child b k 12)) (finding 34 k.offset 0))
    ++ when ((eqb (snap_state k) snap_no_keys || eqb (snap_state k) snap_deleted) && any_key (accounted k.offset) b.keys) (finding 35 k.offset 0)

-- each snapshot with a state whose offset is an id of 32 bits, in key order
unfoldable pub snapshot_states : Book → List Finding
snapshot_states b = each (λ _ k. only (has_snap_state k && leb k.offset 4294967295) (snapshot_state_findings b k)) 0 b.keys
