-- What only contracts of private functions cite.
use Rattle.std.specs.Prelude.{List, ◌++◌}
use Rattle.findings.specs.Findings.{Finding}
use Rattle.book.specs.Book.{Book}
use Rattle.subvolumes.specs.SubvolumeStates.{subvolume_states}
use Rattle.claims.specs.SnapshotClaims.{snapshot_claims}
use Rattle.deletions.specs.SnapshotStates.{snapshot_states}
use Rattle.snapshots.specs.SnapshotSubvolFlags.{snapshot_subvol_flags}
use Rattle.children.specs.SubvolumeChildren.{subvolume_children}
use Rattle.links.specs.SnapshotLinks.{snapshot_links}
use Rattle.gens.specs.BucketGensAgainstAlloc.{bucket_gens_against_alloc}
use Rattle.buckets.specs.FreeSpace.{free_space}

-- the rules across keys, by the btrees without whose keys they find nothing
unfoldable pub subvolume_rules : Book → List Finding
subvolume_rules b = subvolume_states b ++ snapshot_claims b

unfoldable pub snapshot_rules : Book → List Finding
snapshot_rules b = snapshot_states b ++ snapshot_subvol_flags b

-- in two parts
unfoldable pub first_rules : Book → List Finding
first_rules b = subvolume_rules b ++ (snapshot_rules b ++ subvolume_children b)

unfoldable pub last_rules : Book → List Finding
last_rules b = snapshot_links b ++ (bucket_gens_against_alloc b ++ free_space b)

-- the eight rules across keys
unfoldable pub across_rules : Book → List Finding
across_rules b = first_rules b ++ last_rules b
