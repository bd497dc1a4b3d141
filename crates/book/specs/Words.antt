-- The words of snapshots, tree records and subvolumes (document 01, "Snapshots": "Value, little-endian 32-bit words at byte").
use Rattle.std.specs.Prelude.{ℕ, ◌%◌, ◌^◌, Bool, ◌&&◌, List, [], ◌∷◌, length, leb}
use Rattle.bits.specs.Bits.{le_at}
use Rattle.book.specs.Book.{Bkey, is}

-- the 32-bit word at byte i of a key's value
abbrev pub word : ℕ → Bkey → ℕ
word i k = le_at k.value i 4

-- a key of a btree and a type with this many value bytes or more
unfoldable pub holds : ℕ → ℕ → ℕ → Bkey → Bool
holds btree key_type least k = is btree key_type k && leb least (length k.value)

-- "flags 0, parent 4, children 8 and 12, subvolume 16, tree 20, depth 24, skip 28, 32, 36"
abbrev pub flags_word : Bkey → ℕ
flags_word k = word 0 k

abbrev pub parent_word : Bkey → ℕ
parent_word k = word 4 k

abbrev pub child_words : Bkey → List ℕ
child_words k = word 8 k ∷ word 12 k ∷ []

abbrev pub subvolume_word : Bkey → ℕ
subvolume_word k = word 16 k

abbrev pub tree_word : Bkey → ℕ
tree_word k = word 20 k

abbrev pub depth_word : Bkey → ℕ
depth_word k = word 24 k

abbrev pub skip_words : Bkey → List ℕ
skip_words k = word 28 k ∷ word 32 k ∷ word 36 k ∷ []

-- "A tree value: subvolume 0, root 4"
abbrev pub master_word : Bkey → ℕ
master_word k = word 0 k

abbrev pub root_word : Bkey → ℕ
root_word k = word 4 k

-- "In `snapshot_links` the offset's low 32 bits are the id"
unfoldable pub id_of : Bkey → ℕ
id_of k = k.offset % 2 ^ 32
