-- The rule `snapshot_claims` (document 01, kind 32).
use Rattle.std.specs.Prelude.{ℕ, suc, Bool, cond, not, ◌&&◌, List, [], ◌∷◌, length, eqb, ltb, leb}
use Rattle.bits.specs.Bits.{le_at}
use Rattle.findings.specs.Findings.{Finding, finding, when, each}
use Rattle.book.specs.Book.{Bkey, Book, is}
use Rattle.states.specs.StateDistance.{distance, subvol_deleted}
use Rattle.subvolumes.specs.SubvolumeStates.{subvol_state}

-- a subvolume that claims the snapshot at 4: one of 8 value bytes or more that is not within 2 bits of deleted
unfoldable pub claims : Bkey → Bool
claims k =
    (is 8 21 k && leb 8 (length k.value)) && not (leb 44 (length k.value) && leb (distance (subvol_state k) subvol_deleted) 2)

-- the snapshots claimed, in key order, with repeats
unfoldable pub claimed : List Bkey → List ℕ
claimed [] = []
claimed (k ∷ ks) = cond (claims k) (le_at k.value 4 4 ∷ claimed ks) (claimed ks)

-- x counted once more in a map of counts
unfoldable pub count_one : ℕ → List (ℕ × ℕ) → List (ℕ × ℕ)
count_one x [] = (x, 1) ∷ []
count_one x (e ∷ m) = cond (ltb x e.0) ((x, 1) ∷ e ∷ m) (cond (eqb x e.0) ((x, suc e.1) ∷ m) (e ∷ count_one x m))

-- each number of a list with how often it stands there, as a map
unfoldable pub counts : List ℕ → List (ℕ × ℕ)
counts [] = []
counts (x ∷ xs) = count_one x (counts xs)

-- 32 snapshot_claimed_twice: each number that stands more than once in a list, and how often, in order
unfoldable pub claim_findings : List ℕ → List Finding
claim_findings xs = each (λ _ e. when (ltb 1 e.1) (finding 32 e.0 e.1)) 0 (counts xs)

-- each snapshot with more than one claimant, and their number, in id order
unfoldable pub snapshot_claims : Book → List Finding
snapshot_claims b = claim_findings (claimed b.keys)
