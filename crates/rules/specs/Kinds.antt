-- Which kinds a rule can give.
use Rattle.std.specs.Prelude.{ℕ, Bool, true, not, ◌&&◌, ◌≡◌, List, [], ◌∷◌, ◌++◌}
use Rattle.findings.specs.Findings.{Finding, each}
use Rattle.pairs.specs.Pairs.{has}
use Rattle.book.specs.Book.{Book}
use Rattle.subvolumes.specs.SubvolumeStates.{subvolume_states}
use Rattle.claims.specs.SnapshotClaims.{snapshot_claims}
use Rattle.deletions.specs.SnapshotStates.{snapshot_states}
use Rattle.snapshots.specs.SnapshotSubvolFlags.{snapshot_subvol_flags}
use Rattle.children.specs.SubvolumeChildren.{subvolume_children}
use Rattle.links.specs.SnapshotLinks.{snapshot_links}
use Rattle.gens.specs.BucketGensAgainstAlloc.{bucket_gens_against_alloc}
use Rattle.buckets.specs.FreeSpace.{free_space}
use Rattle.forest.specs.Lists.{◌∈◌}
use Rattle.keys.specs.KeyFindings.{key_findings}

-- every finding is of one of these kinds
pub record Within (kinds : List ℕ) (fs : List Finding) : Type 0 where
  pub kind : (f : Finding) → f ∈ fs → has f.kind kinds ≡ true

-- a rule, and the kinds that it can give
pub record Kinds : Type 0 where
  pub rule : Book → List Finding
  pub kinds : List ℕ

-- the kinds of the rules on one key, and of `snapshot_links`
abbrev pub key_kinds : List ℕ
key_kinds =
    1 ∷ 2 ∷ 3 ∷ 4 ∷ 5 ∷ 6 ∷ 7 ∷ 8 ∷ 9 ∷ 10 ∷ 11 ∷ 12 ∷ 13 ∷ 14 ∷ 15 ∷ 16 ∷ 17 ∷ 18 ∷ 19 ∷ 20 ∷ 21 ∷ 22 ∷ 23 ∷ 24 ∷ 25 ∷ 26 ∷ 27 ∷ 28 ∷ []

abbrev pub link_kinds : List ℕ
link_kinds = 31 ∷ 39 ∷ 40 ∷ 41 ∷ 42 ∷ 43 ∷ 44 ∷ 45 ∷ []

-- the rules in their order
unfoldable pub kinds_of : List Kinds
kinds_of =
    record { rule = λ b. each (key_findings b) 0 b.keys; kinds = key_kinds }
    ∷ record { rule = subvolume_states; kinds = 29 ∷ 30 ∷ 31 ∷ [] }
    ∷ record { rule = snapshot_claims; kinds = 32 ∷ [] }
    ∷ record { rule = snapshot_states; kinds = 33 ∷ 34 ∷ 35 ∷ [] }
    ∷ record { rule = snapshot_subvol_flags; kinds = 36 ∷ [] }
    ∷ record { rule = subvolume_children; kinds = 37 ∷ 38 ∷ [] }
    ∷ record { rule = snapshot_links; kinds = link_kinds }
    ∷ record { rule = bucket_gens_against_alloc; kinds = 46 ∷ [] }
    ∷ record { rule = free_space; kinds = 47 ∷ 48 ∷ 49 ∷ 50 ∷ [] }
    ∷ []

-- what the rules of such a table find, one after the other
unfoldable pub list_of : List Kinds → Book → List Finding
list_of [] b = []
list_of (k ∷ ks) b = k.rule b ++ list_of ks b

-- no number of a list is in another
unfoldable pub apart : List ℕ → List ℕ → Bool
apart [] ls = true
apart (k ∷ ks) ls = not (has k ls) && apart ks ls
