-- The numbers of btrees and of key types, one name each: the Rust's, or where it has none that of Linux's header.
-- Neither names the types 37 to 40.
use Rattle.std.specs.Prelude.{ℕ}

-- ---- btrees

abbrev pub extents : ℕ
extents = 0

abbrev pub inodes : ℕ
inodes = 1

abbrev pub dirents : ℕ
dirents = 2

abbrev pub xattrs : ℕ
xattrs = 3

abbrev pub alloc : ℕ
alloc = 4

abbrev pub quotas : ℕ
quotas = 5

abbrev pub stripes : ℕ
stripes = 6

abbrev pub reflink : ℕ
reflink = 7

abbrev pub subvolumes : ℕ
subvolumes = 8

abbrev pub snapshots : ℕ
snapshots = 9

abbrev pub lru : ℕ
lru = 10

abbrev pub freespace : ℕ
freespace = 11

abbrev pub need_discard : ℕ
need_discard = 12

abbrev pub backpointers : ℕ
backpointers = 13

abbrev pub bucket_gens : ℕ
bucket_gens = 14

abbrev pub snapshot_trees : ℕ
snapshot_trees = 15

abbrev pub deleted_inodes : ℕ
deleted_inodes = 16

abbrev pub logged_ops : ℕ
logged_ops = 17

abbrev pub reconcile_work : ℕ
reconcile_work = 18

abbrev pub subvolume_children : ℕ
subvolume_children = 19

abbrev pub accounting : ℕ
accounting = 20

abbrev pub reconcile_hipri : ℕ
reconcile_hipri = 21

abbrev pub reconcile_pending : ℕ
reconcile_pending = 22

abbrev pub reconcile_scan : ℕ
reconcile_scan = 23

abbrev pub reconcile_work_phys : ℕ
reconcile_work_phys = 24

abbrev pub reconcile_hipri_phys : ℕ
reconcile_hipri_phys = 25

abbrev pub bucket_to_stripe : ℕ
bucket_to_stripe = 26

abbrev pub stripe_backpointers : ℕ
stripe_backpointers = 27

abbrev pub damage : ℕ
damage = 28

-- ---- types of keys

abbrev pub key_deleted : ℕ
key_deleted = 0

abbrev pub key_whiteout : ℕ
key_whiteout = 1

abbrev pub key_error : ℕ
key_error = 2

abbrev pub key_cookie : ℕ
key_cookie = 3

abbrev pub key_hash_whiteout : ℕ
key_hash_whiteout = 4

abbrev pub key_extent : ℕ
key_extent = 6

abbrev pub key_reservation : ℕ
key_reservation = 7

abbrev pub key_inode : ℕ
key_inode = 8

abbrev pub key_inode_generation : ℕ
key_inode_generation = 9

abbrev pub key_dirent : ℕ
key_dirent = 10

abbrev pub key_xattr : ℕ
key_xattr = 11

abbrev pub key_alloc : ℕ
key_alloc = 12

abbrev pub key_quota : ℕ
key_quota = 13

abbrev pub key_stripe : ℕ
key_stripe = 14

abbrev pub key_reflink_p : ℕ
key_reflink_p = 15

abbrev pub key_reflink_v : ℕ
key_reflink_v = 16

abbrev pub key_inline_data : ℕ
key_inline_data = 17

abbrev pub key_indirect_inline_data : ℕ
key_indirect_inline_data = 19

abbrev pub key_alloc_v2 : ℕ
key_alloc_v2 = 20

abbrev pub key_subvolume : ℕ
key_subvolume = 21

abbrev pub key_snapshot : ℕ
key_snapshot = 22

abbrev pub key_inode_v2 : ℕ
key_inode_v2 = 23

abbrev pub key_alloc_v3 : ℕ
key_alloc_v3 = 24

abbrev pub key_set : ℕ
key_set = 25

abbrev pub key_alloc_v4 : ℕ
key_alloc_v4 = 27

abbrev pub key_backpointer : ℕ
key_backpointer = 28

abbrev pub key_inode_v3 : ℕ
key_inode_v3 = 29

abbrev pub key_bucket_gens : ℕ
key_bucket_gens = 30

abbrev pub key_snapshot_tree : ℕ
key_snapshot_tree = 31

abbrev pub key_logged_op_truncate : ℕ
key_logged_op_truncate = 32

abbrev pub key_logged_op_finsert : ℕ
key_logged_op_finsert = 33

abbrev pub key_accounting : ℕ
key_accounting = 34

abbrev pub key_inode_alloc_cursor : ℕ
key_inode_alloc_cursor = 35

abbrev pub key_extent_whiteout : ℕ
key_extent_whiteout = 36

abbrev pub key_type37 : ℕ
key_type37 = 37

abbrev pub key_type38 : ℕ
key_type38 = 38

abbrev pub key_type39 : ℕ
key_type39 = 39

abbrev pub key_type40 : ℕ
key_type40 = 40
