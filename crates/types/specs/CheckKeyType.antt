-- The rule `check_key_type` (document 02, ticket 4: kind 22). Subject is the key's index, object 0.
use Rattle.std.specs.Prelude.{ℕ, Bool, false, not, ◌&&◌, List, [], ◌∷◌, None, Option, Some}
use Rattle.findings.specs.Findings.{Finding, finding, when}
use Rattle.pairs.specs.Pairs.{has}
use Rattle.book.specs.Names.{extents, inodes, dirents, xattrs, alloc, quotas, stripes, reflink, subvolumes, snapshots}
use Rattle.book.specs.Names.{lru, freespace, need_discard, backpointers, bucket_gens, snapshot_trees, deleted_inodes}
use Rattle.book.specs.Names.{logged_ops, reconcile_work, subvolume_children, accounting, reconcile_hipri}
use Rattle.book.specs.Names.{reconcile_pending, reconcile_scan, reconcile_work_phys, reconcile_hipri_phys, bucket_to_stripe}
use Rattle.book.specs.Names.{stripe_backpointers, damage}
use Rattle.book.specs.Names.{key_deleted, key_whiteout, key_error, key_cookie, key_hash_whiteout, key_extent, key_reservation}
use Rattle.book.specs.Names.{key_inode, key_inode_generation, key_dirent, key_xattr, key_alloc, key_quota, key_stripe}
use Rattle.book.specs.Names.{key_reflink_p, key_reflink_v, key_inline_data, key_indirect_inline_data, key_alloc_v2, key_subvolume}
use Rattle.book.specs.Names.{key_snapshot, key_inode_v2, key_alloc_v3, key_set, key_alloc_v4, key_backpointer, key_inode_v3}
use Rattle.book.specs.Names.{key_bucket_gens, key_snapshot_tree, key_logged_op_truncate, key_logged_op_finsert, key_accounting}
use Rattle.book.specs.Names.{key_inode_alloc_cursor, key_extent_whiteout, key_type37, key_type38, key_type39, key_type40}
use Rattle.book.specs.Maps.{lookup}
use Rattle.book.specs.Book.{Bkey}

-- KEY_TYPES_ANYWHERE: the types that a key of every btree may have
unfoldable pub key_types_anywhere : List ℕ
key_types_anywhere = key_deleted ∷ key_whiteout ∷ key_error ∷ key_cookie ∷ key_set ∷ key_type40 ∷ []

-- KEY_TYPES_ALLOWED: rows of a btree and the other types that its keys may have; an empty row is a row
unfoldable pub key_types_allowed : List (ℕ × List ℕ)
key_types_allowed =
    (extents, key_extent ∷ key_reservation ∷ key_reflink_p ∷ key_inline_data ∷ key_extent_whiteout ∷ [])
    ∷ (inodes, key_inode ∷ key_inode_generation ∷ key_inode_v2 ∷ key_inode_v3 ∷ [])
    ∷ (dirents, key_hash_whiteout ∷ key_dirent ∷ [])
    ∷ (xattrs, key_hash_whiteout ∷ key_xattr ∷ [])
    ∷ (alloc, key_alloc ∷ key_alloc_v2 ∷ key_alloc_v3 ∷ key_alloc_v4 ∷ [])
    ∷ (quotas, key_quota ∷ [])
    ∷ (stripes, key_stripe ∷ [])
    ∷ (reflink, key_reflink_v ∷ key_indirect_inline_data ∷ [])
    ∷ (subvolumes, key_subvolume ∷ [])
    ∷ (snapshots, key_snapshot ∷ [])
    ∷ (lru, [])
    ∷ (freespace, [])
    ∷ (need_discard, [])
    ∷ (backpointers, key_backpointer ∷ [])
    ∷ (bucket_gens, key_bucket_gens ∷ [])
    ∷ (snapshot_trees, key_snapshot_tree ∷ [])
    ∷ (deleted_inodes, [])
    ∷ (logged_ops, key_logged_op_truncate ∷ key_logged_op_finsert ∷ key_inode_alloc_cursor ∷ key_type37 ∷ key_type39 ∷ [])
    ∷ (reconcile_work, [])
    ∷ (subvolume_children, [])
    ∷ (accounting, key_accounting ∷ [])
    ∷ (reconcile_hipri, [])
    ∷ (reconcile_pending, [])
    ∷ (reconcile_scan, key_backpointer ∷ [])
    ∷ (reconcile_work_phys, [])
    ∷ (reconcile_hipri_phys, [])
    ∷ (bucket_to_stripe, [])
    ∷ (stripe_backpointers, key_backpointer ∷ [])
    ∷ (damage, key_type38 ∷ [])
    ∷ []

-- "its btree has a row, its type is not in the row, and its type is not among KEY_TYPES_ANYWHERE"
unfoldable pub outside : Option (List ℕ) → ℕ → Bool
outside None key_type = false
outside (Some row) key_type = not (has key_type row) && not (has key_type key_types_anywhere)

-- a type that keys of this btree may not have
unfoldable pub foreign_type : ℕ → ℕ → Bool
foreign_type btree key_type = outside (lookup btree key_types_allowed) key_type

-- 22 bkey_invalid_type_for_btree
unfoldable pub check_key_type : ℕ → Bkey → List Finding
check_key_type i k = when (foreign_type k.btree k.key_type) (finding 22 i 0)
