-- The list of all rules (document 01, "Down one level: order of the rules").
use Rattle.std.specs.Prelude.{List, ◌++◌}
use Rattle.findings.specs.Findings.{Finding, each}
use Rattle.book.specs.Book.{Book}
use Rattle.keys.specs.KeyFindings.{key_findings}
use Rattle.subvolumes.specs.SubvolumeStates.{subvolume_states}
use Rattle.claims.specs.SnapshotClaims.{snapshot_claims}
use Rattle.deletions.specs.SnapshotStates.{snapshot_states}
use Rattle.snapshots.specs.SnapshotSubvolFlags.{snapshot_subvol_flags}
use Rattle.children.specs.SubvolumeChildren.{subvolume_children}
use Rattle.links.specs.SnapshotLinks.{snapshot_links}
use Rattle.gens.specs.BucketGensAgainstAlloc.{bucket_gens_against_alloc}
use Rattle.buckets.specs.FreeSpace.{free_space}

-- "Then `subvolume_states`, `snapshot_claims`, .., `free_space`": the findings of a book are this list
unfoldable pub findings_of : Book → List Finding
findings_of b =
    each (key_findings b) 0 b.keys
    ++ (subvolume_states b
    ++ (snapshot_claims b
    ++ (snapshot_states b
    ++ (snapshot_subvol_flags b ++ (subvolume_children b ++ (snapshot_links b ++ (bucket_gens_against_alloc b ++ free_space b)))))))
