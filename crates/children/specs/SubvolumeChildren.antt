-- The rule `subvolume_children` (document 01, kinds 37 and 38).
use Rattle.std.specs.Prelude.{ℕ, Bool, not, ◌&&◌, List, [], ◌∷◌, ◌++◌, length, eqb, leb, None, Option, Some}
use Rattle.findings.specs.Findings.{Finding, finding, when, only, each}
use Rattle.book.specs.Maps.{lookup}
use Rattle.book.specs.Book.{Bkey, Book, is}
use Rattle.book.specs.KeyMaps.{map_of}
use Rattle.states.specs.StateDistance.{subvol_deleted}
use Rattle.walk.specs.Keys.{any_key}
use Rattle.book.specs.Words.{word, holds}

-- a deleted subvolume: its state is the word at 40
unfoldable pub is_deleted : Bkey → Bool
is_deleted k = leb 44 (length k.value) && eqb (word 40 k) subvol_deleted

-- a subvolume (btree 8, type 21) of 24 value bytes or more that is not deleted
unfoldable pub has_fs_parent : Bkey → Bool
has_fs_parent k = holds 8 21 24 k && not (is_deleted k)

-- each such subvolume's parent, the word at 20: "in `subvolume_children` the whole offset" is the id
unfoldable pub fs_parents : Book → List (ℕ × ℕ)
fs_parents b = map_of has_fs_parent (λ k. k.offset) (word 20) b.keys

-- an entry (btree 19, type 25): its inode is the parent, its offset the child
abbrev pub is_entry : Bkey → Bool
is_entry k = is 19 25 k

-- the entry of this parent and this child
unfoldable pub is_entry_of : ℕ → ℕ → Bkey → Bool
is_entry_of parent child k = is_entry k && (eqb k.inode parent && eqb k.offset child)

-- 37 subvol_children_entry_missing (child, parent): a subvolume with a parent other than 0 has no entry
unfoldable pub missing_entry : List Bkey → ℕ × ℕ → List Finding
missing_entry keys e = when (not (eqb e.1 0) && not (any_key (is_entry_of e.1 e.0) keys)) (finding 37 e.0 e.1)

-- 38 subvol_children_entry_wrong (child, its parent or 0): an entry whose child has another parent, or is not there
unfoldable pub wrong_entry : Bkey → Option ℕ → List Finding
wrong_entry k None = finding 38 k.offset 0 ∷ []
wrong_entry k (Some parent) = when (not (eqb parent k.inode)) (finding 38 k.offset parent)

-- the subvolumes in id order, then the entries in key order
unfoldable pub subvolume_children : Book → List Finding
subvolume_children b =
    each (λ _ e. missing_entry b.keys e) 0 (fs_parents b)
    ++ each (λ _ k. only (is_entry k) (wrong_entry k (lookup k.offset (fs_parents b)))) 0 b.keys
