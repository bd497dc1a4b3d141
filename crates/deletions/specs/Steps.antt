-- What only contracts of private functions of `snapshot_states` cite: three sets of numbers as pairs of a number and its set.
use Rattle.std.specs.Prelude.{ℕ, ◌/◌, ◌^◌, Bool, cond, not, ◌&&◌, ◌||◌, List, [], ◌∷◌, ◌++◌, length, eqb, leb}
use Rattle.bits.specs.Bits.{le_at}
use Rattle.findings.specs.Findings.{Finding, finding, when, only}
use Rattle.pairs.specs.Pairs.{pair, has}
use Rattle.book.specs.Book.{Bkey, is}
use Rattle.states.specs.StateDistance.{snap_will_delete, snap_no_keys, snap_deleted, subvol_live}
use Rattle.deletions.specs.SnapshotStates.{has_snap_state, snap_state, accounted_id}
use Rattle.subvolumes.specs.SubvolumeStates.{is_live_snapshot}

-- a live subvolume (btree 8, type 21; state word at 40)
unfoldable pub is_live_subvolume : Bkey → Bool
is_live_subvolume k = (is 8 21 k && leb 44 (length k.value)) && eqb (le_at k.value 40 4) subvol_live

-- an accounting key (btree 20, type 34) of kind snapshot (5) with keys counted
unfoldable pub is_accounted : Bkey → Bool
is_accounted k = (is 20 34 k && eqb (k.inode / 2 ^ 56) 5) && (leb 8 (length k.value) && not (eqb (le_at k.value 0 8) 0))

-- set 0: live snapshots; 1: live subvolumes; 2: accounted ids
unfoldable pub set_pair : ℕ → Bkey → List ℕ
set_pair p k =
    cond (is_live_snapshot k)
    (pair k.offset 0 ∷ [])
    (cond (is_live_subvolume k) (pair k.offset 1 ∷ []) (cond (is_accounted k) (pair (accounted_id k) 2 ∷ []) []))

-- what the sets say of a snapshot that will be deleted, by its words of subvolume and children
unfoldable pub will_delete : List ℕ → Bkey → List Finding
will_delete xs k =
    let live = has (pair (le_at k.value 16 4) 1) xs in
    when live (finding 33 k.offset 0)
    ++ when (not live && (has (pair (le_at k.value 8 4) 0) xs && has (pair (le_at k.value 12 4) 0) xs)) (finding 34 k.offset 0)

unfoldable pub deleting : List ℕ → Bkey → List Finding
deleting xs k = only (eqb (snap_state k) snap_will_delete) (will_delete xs k)

-- of one with no keys or deleted
unfoldable pub has_data : List ℕ → Bkey → List Finding
has_data xs k = when ((eqb (snap_state k) snap_no_keys || eqb (snap_state k) snap_deleted) && has (pair k.offset 2) xs) (finding 35 k.offset 0)

-- what the sets say of a key
unfoldable pub set_findings : List ℕ → Bkey → List Finding
set_findings xs k = only (has_snap_state k && leb k.offset 4294967295) (deleting xs k ++ has_data xs k)
