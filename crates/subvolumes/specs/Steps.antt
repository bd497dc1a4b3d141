-- What only contracts of private functions cite.
use Rattle.std.specs.Prelude.{ℕ, ◌+◌, ◌*◌, ◌/◌, ◌%◌, ◌^◌, ◌≤◌, ◌<◌, Bool, cond, ◌&&◌, ◌||◌, List, [], ◌∷◌, ◌++◌, length, get_or, eqb, leb}
use Rattle.bits.specs.Bits.{le_at}
use Rattle.findings.specs.Findings.{Finding, finding, when, only, each}
use Rattle.pairs.specs.Pairs.{pair}
use Rattle.book.specs.Book.{Bkey, is}
use Rattle.walk.specs.Keys.{key_at}
use Rattle.states.specs.StateDistance.{subvol_deleted}
use Rattle.subvolumes.specs.SubvolumeStates.{is_live_snapshot, unavailable, subvol_state}

-- a tree record (btree 15, type 31)
unfoldable pub is_tree : Bkey → Bool
is_tree k = is 15 31 k && leb 8 (length k.value)

-- a key that stands in a group: a live snapshot or a tree record
unfoldable pub in_group : Bkey → Bool
in_group k = is_live_snapshot k || is_tree k

-- the group of a live snapshot is its subvolume (word at 16) doubled, that of a tree record one more than its subvolume (word at 0) doubled
unfoldable pub group_of : Bkey → ℕ
group_of k = cond (is_live_snapshot k) (2 * le_at k.value 16 4) (2 * le_at k.value 0 4 + 1)

-- the pair of such a key at byte p: its group and p
unfoldable pub state_pair : ℕ → Bkey → List ℕ
state_pair p k = cond (in_group k) (pair (group_of k) p ∷ []) []

-- of the first n pairs those before pair i have a first word below the group, and the others not
pub record GroupFrom (w : List ℕ) (n group i : ℕ) : Type 0 where
  pub inside : i ≤ n
  pub below : (k : ℕ) → k < i → get_or w (2 * k) 0 < group
  pub above : (k : ℕ) → i ≤ k → k < n → group ≤ get_or w (2 * k) 0

-- the findings of a kind for each pair of a group, with the offset of the key at its place as subject and id as object
unfoldable pub group_findings : List ℕ → ℕ → ℕ → ℕ → List ℕ → List Finding
group_findings s kind group id xs =
    each (λ _ x. only (eqb (x / 2 ^ 64) group) (finding kind (key_at s (x % 2 ^ 64)).offset id ∷ [])) 0 xs

-- what the pairs of states say of a subvolume
unfoldable pub judged : List ℕ → List ℕ → Bkey → List Finding
judged s xs k =
    only (unavailable k)
    (when (eqb k.offset 1) (finding 29 1 0)
    ++ only (eqb (subvol_state k) subvol_deleted)
    (group_findings s 30 (2 * k.offset) k.offset xs ++ group_findings s 31 (2 * k.offset + 1) k.offset xs))
