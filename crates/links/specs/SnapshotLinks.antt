-- The rule `snapshot_links` (document 01, kinds 31 and 39 to 45).
use Rattle.std.specs.Prelude.{ℕ, Bool, false, not, ◌&&◌, List, [], ◌∷◌, ◌++◌, length, eqb, None, Option, Some}
use Rattle.findings.specs.Findings.{Finding, finding, when, only, each, keep}
use Rattle.pairs.specs.Pairs.{has}
use Rattle.book.specs.Maps.{lookup}
use Rattle.book.specs.Book.{Bkey, Book}
use Rattle.parents.specs.Roots.{root_of, above}
use Rattle.book.specs.KeyMaps.{map_of, parents_of}
use Rattle.book.specs.Words.{holds, child_words, subvolume_word, tree_word, depth_word, skip_words, master_word, root_word, id_of}

-- THE MAPS MADE FROM THE KEYS

-- each tree's master subvolume and root: records (btree 15, type 31) of 8 value bytes or more
unfoldable pub tree_map : Book → List (ℕ × (ℕ × ℕ))
tree_map b = map_of (holds 15 31 8) id_of (λ k. (master_word k, root_word k)) b.keys

-- the tree that each snapshot names: snapshots (btree 9, type 22) of 24 value bytes or more
unfoldable pub tree_of_map : Book → List (ℕ × ℕ)
tree_of_map b = map_of (holds 9 22 24) id_of tree_word b.keys

-- there, and equal to x
unfoldable pub is_the : ℕ → Option ℕ → Bool
is_the x None = false
is_the x (Some y) = eqb y x

-- there, and not equal to x
unfoldable pub is_other : ℕ → Option ℕ → Bool
is_other x None = false
is_other x (Some y) = not (eqb y x)

-- THE TREES

-- 31 snapshot_tree_to_missing_subvol (tree, subvolume), or 40 snapshot_tree_to_wrong_subvol where its snapshot is in another tree
unfoldable pub master_findings : List (ℕ × ℕ) → ℕ → ℕ → Option ℕ → List Finding
master_findings tree_of id subvolume None = finding 31 id subvolume ∷ []
master_findings tree_of id subvolume (Some snap) = when (is_other id (lookup snap tree_of)) (finding 40 id subvolume)

-- 39 snapshot_tree_to_bad_root_snapshot (tree, root): no snapshot of the root's id names the tree; then 31 or 40
unfoldable pub tree_findings : Book → ℕ × (ℕ × ℕ) → List Finding
tree_findings b e =
    when (not (is_the e.0 (lookup e.1.1 (tree_of_map b)))) (finding 39 e.0 e.1.1)
    ++ master_findings (tree_of_map b) e.0 e.1.0 (lookup e.1.0 b.subvolumes)

-- THE SNAPSHOTS

-- a tree record and a root are there, and the record names the root
unfoldable pub names_root : Option (ℕ × ℕ) → Option (ℕ × ℕ) → Bool
names_root None root = false
names_root (Some tree) None = false
names_root (Some tree) (Some root) = eqb tree.1 root.0

-- a root is there, and the depth is not the number of links to it
unfoldable pub wrong_depth : ℕ → Option (ℕ × ℕ) → Bool
wrong_depth depth None = false
wrong_depth depth (Some root) = not (eqb depth root.1)

-- a child other than 0 whose parent is not this snapshot
unfoldable pub bad_child : List (ℕ × ℕ) → ℕ → ℕ → Bool
bad_child parents id child = not (eqb child 0) && not (is_the id (lookup child parents))

-- a skip word other than 0 that names neither the snapshot nor an id above it
unfoldable pub bad_skip : ℕ → List ℕ → ℕ → Bool
bad_skip id ids skip = not (eqb skip 0) && not (has skip (id ∷ ids))

-- 41 snapshot_to_bad_snapshot_tree (snapshot, tree), 42 snapshot_bad_depth (snapshot, depth word)
unfoldable pub root_findings : Bkey → ℕ → Option (ℕ × ℕ) → Option (ℕ × ℕ) → List Finding
root_findings k id tree root =
    when (not (names_root tree root)) (finding 41 id (tree_word k)) ++ when (wrong_depth (depth_word k) root) (finding 42 id (depth_word k))

-- 43 snapshot_subvol_backref_wrong (snapshot, subvolume): the subvolume's snapshot is another
unfoldable pub backref_findings : Bkey → ℕ → Option ℕ → List Finding
backref_findings k id snap = when (not (eqb (subvolume_word k) 0) && is_other id snap) (finding 43 id (subvolume_word k))

-- 44 snapshot_bad_child (snapshot, child), for each of the two
unfoldable pub child_findings : Bkey → ℕ → List (ℕ × ℕ) → List Finding
child_findings k id parents = each (λ _ child. when (bad_child parents id child) (finding 44 id child)) 0 (child_words k)

-- 45 snapshot_bad_skiplist (snapshot, number of bad words)
unfoldable pub skip_findings : Bkey → ℕ → List ℕ → List Finding
skip_findings k id ids =
    let bad = length (keep (bad_skip id ids) (skip_words k)) in
    when (not (eqb bad 0)) (finding 45 id bad)

-- what a snapshot gives, in that order
unfoldable pub link_findings : Book → Bkey → List Finding
link_findings b k =
    let id = id_of k in
    root_findings k id (lookup (tree_word k) (tree_map b)) (root_of (parents_of b) id)
    ++ (backref_findings k id (lookup (subvolume_word k) b.subvolumes)
    ++ (child_findings k id (parents_of b) ++ skip_findings k id (above (parents_of b) id)))

-- nothing without the trees mark; then the trees in id order, and the snapshots of 40 value bytes or more in key order
unfoldable pub snapshot_links : Book → List Finding
snapshot_links b =
    only b.header.trees
    (each (λ _ e. tree_findings b e) 0 (tree_map b) ++ each (λ _ k. only (holds 9 22 40 k) (link_findings b k)) 0 b.keys)
