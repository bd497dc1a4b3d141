-- The walk up the parents (document 01, "Snapshots"): the root above an id, and the ids followed.
use Rattle.std.specs.Prelude.{ℕ, zero, suc, cond, List, [], ◌∷◌, None, Option, Some}
use Rattle.pairs.specs.Pairs.{has}
use Rattle.book.specs.Maps.{lookup}

-- one link more on the way to a root
unfoldable pub one_more : Option (ℕ × ℕ) → Option (ℕ × ℕ)
one_more None = None
one_more (Some r) = Some (r.0, suc r.1)

-- the root of `at` and the links to it, by what the parents have for `at` and by the root of its parent
unfoldable pub root_via : ℕ → (ℕ → Option (ℕ × ℕ)) → Option ℕ → Option (ℕ × ℕ)
root_via at root_of_parent None = None
root_via at root_of_parent (Some zero) = Some (at, 0)
root_via at root_of_parent (Some (suc p)) = one_more (root_of_parent (suc p))

-- the first id whose parent is 0 that a number of links from 0 to `most` leads to, through present ids; and that number
unfoldable pub root_within : List (ℕ × ℕ) → ℕ → ℕ → Option (ℕ × ℕ)
root_within parents zero at = root_via at (λ p. None) (lookup at parents)
root_within parents (suc most) at = root_via at (λ p. root_within parents most p) (lookup at parents)

-- "A root exists exactly if some number of links from 0 to 1,024 leads, through present ids, to one whose parent is 0; the first such id is
-- the root": the root, and "the number of parent links followed"
unfoldable pub root_of : List (ℕ × ℕ) → ℕ → Option (ℕ × ℕ)
root_of parents id = root_within parents 1024 id

-- the ids on the way up, by what the parents have for the last id: none past a root, an absent id or one whose parent was seen
unfoldable pub followed_via : List ℕ → (ℕ → List ℕ) → Option ℕ → List ℕ
followed_via seen more None = []
followed_via seen more (Some zero) = []
followed_via seen more (Some (suc p)) = cond (has (suc p) seen) [] (suc p ∷ more (suc p))

-- the ids that at most n links from `at` pass, until the next would be one of `seen`
unfoldable pub followed : List (ℕ × ℕ) → List ℕ → ℕ → ℕ → List ℕ
followed parents seen at zero = []
followed parents seen at (suc n) = followed_via seen (λ p. followed parents (p ∷ seen) p n) (lookup at parents)

-- the ids above a snapshot, nearest first: its ancestors up to the root; without a root "the ids followed until the next would be the snapshot
-- itself, a repeat or the 1,025th, or until an absent id, which is still included"
unfoldable pub above : List (ℕ × ℕ) → ℕ → List ℕ
above parents id = followed parents (id ∷ []) id 1024
