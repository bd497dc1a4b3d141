-- The rule `subvolume_states` (document 01, kinds 29 to 31).
use Rattle.std.specs.Prelude.{ℕ, Bool, false, ◌&&◌, ◌||◌, List, [], ◌∷◌, ◌++◌, length, eqb, leb}
use Rattle.bits.specs.Bits.{le_at}
use Rattle.findings.specs.Findings.{Finding, finding, when, only, each}
use Rattle.book.specs.Book.{Bkey, Book, is}
use Rattle.states.specs.StateDistance.{snap_live, subvol_unlinked, subvol_deleted}

-- a subvolume (btree 8, type 21) whose value has a state word, at 40
unfoldable pub has_subvol_state : Bkey → Bool
has_subvol_state k = is 8 21 k && leb 44 (length k.value)

-- that word
unfoldable pub subvol_state : Bkey → ℕ
subvol_state k = le_at k.value 40 4

-- an unlinked or deleted subvolume whose offset is an id of 32 bits
unfoldable pub unavailable : Bkey → Bool
unavailable k = has_subvol_state k && ((eqb (subvol_state k) subvol_unlinked || eqb (subvol_state k) subvol_deleted) && leb k.offset 4294967295)

-- a live snapshot (btree 9, type 22; state word at 56)
unfoldable pub is_live_snapshot : Bkey → Bool
is_live_snapshot k = (is 9 22 k && leb 60 (length k.value)) && eqb (le_at k.value 56 4) snap_live

-- one that names subvolume id (word at 16)
unfoldable pub live_snapshot_of : ℕ → Bkey → Bool
live_snapshot_of id k =
    (is 9 22 k && leb 60 (length k.value)) && (eqb (le_at k.value 16 4) id && eqb (le_at k.value 56 4) snap_live)

-- a tree record (btree 15, type 31) that names subvolume id (word at 0)
unfoldable pub tree_of_subvolume : ℕ → Bkey → Bool
tree_of_subvolume id k = (is 15 31 k && leb 8 (length k.value)) && eqb (le_at k.value 0 4) id

-- 29 root_subvol_missing for subvolume 1; of a deleted one, 30 snapshot_subvol_state_mismatch for each live snapshot of it,
-- then 31 snapshot_tree_to_missing_subvol for each tree record of it
unfoldable pub subvolume_findings : Book → Bkey → List Finding
subvolume_findings b k =
    when (eqb k.offset 1) (finding 29 1 0)
    ++ only (eqb (subvol_state k) subvol_deleted)
    (each (λ _ s. when (live_snapshot_of k.offset s) (finding 30 s.offset k.offset)) 0 b.keys
    ++ each (λ _ t. when (tree_of_subvolume k.offset t) (finding 31 t.offset k.offset)) 0 b.keys)

-- each unavailable subvolume, in key order
unfoldable pub subvolume_states : Book → List Finding
subvolume_states b = each (λ _ k. only (unavailable k) (subvolume_findings b k)) 0 b.keys

-- "the set that `subvolume_states` returns": whether an id is in it
unfoldable pub is_unavailable : ℕ → List Bkey → Bool
is_unavailable id [] = false
is_unavailable id (k ∷ ks) = (unavailable k && eqb k.offset id) || is_unavailable id ks
