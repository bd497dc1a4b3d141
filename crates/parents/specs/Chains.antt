-- A root as functions answer it, and the ids on the way up.
use Rattle.std.specs.Prelude.{ℕ, zero, suc, List, [], ◌∷◌, None, Option, Some}
use Rattle.book.specs.Maps.{lookup}
use Rattle.parents.specs.declared.Root.{Root}

-- a root and the links to it, or none, as functions answer it
unfoldable pub root_answer : Option (ℕ × ℕ) → Option Root
root_answer None = None
root_answer (Some r) = Some (record { root = r.0; links = r.1 })

-- the ids on the way up, by what the parents have for the last id: none past a root or an absent id
unfoldable pub chain_via : (ℕ → List ℕ) → Option ℕ → List ℕ
chain_via more None = []
chain_via more (Some zero) = []
chain_via more (Some (suc p)) = suc p ∷ more (suc p)

-- the ids that at most n links from `at` pass, repeats included: those of `above`, and on a ring the snapshot itself and each id again
unfoldable pub chain : List (ℕ × ℕ) → ℕ → ℕ → List ℕ
chain parents at zero = []
chain parents at (suc n) = chain_via (λ p. chain parents p n) (lookup at parents)
