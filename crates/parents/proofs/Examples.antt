-- What stands above an id of small tables.
use Rattle.std.specs.Prelude.{None, Some}
use mathlib.Core.Path.{◌≡◌, refl}
use mathlib.Core.List.{[], ◌∷◌}
use Rattle.pairs.specs.Pairs.{has}
use Rattle.book.specs.Maps.{lookup}
use Rattle.parents.specs.Roots.{one_more, root_via, root_within, root_of, followed_via, followed, above}
use Rattle.parents.specs.Chains.{chain_via, chain}

-- 9 is absent and still included
absent_above : (root_of ((5, 7) ∷ (7, 9) ∷ []) 5 ≡ None) × (above ((5, 7) ∷ (7, 9) ∷ []) 5 ≡ 7 ∷ 9 ∷ [])
unfolding one_more root_via root_within root_of followed_via followed above lookup has
absent_above = (refl, refl)

-- after 8 the next would be a repeat, 6; in the second after 6 the snapshot itself
repeat_above : (above ((5, 6) ∷ (6, 8) ∷ (8, 6) ∷ []) 5 ≡ 6 ∷ 8 ∷ []) × (above ((5, 6) ∷ (6, 5) ∷ []) 5 ≡ 6 ∷ [])
unfolding followed_via followed above lookup has
repeat_above = (refl, refl)

-- what is filled in has the repeats
repeat_chain : chain ((5, 6) ∷ (6, 8) ∷ (8, 6) ∷ []) 5 4 ≡ 6 ∷ 8 ∷ 6 ∷ 8 ∷ []
unfolding chain_via chain lookup
repeat_chain = refl

-- a parent of 0 is no link, also where an entry has the id 0
zero_above : (root_of ((0, 5) ∷ (5, 0) ∷ (7, 5) ∷ []) 7 ≡ Some (5, 1)) × (above ((0, 5) ∷ (5, 0) ∷ (7, 5) ∷ []) 7 ≡ 5 ∷ [])
unfolding one_more root_via root_within root_of followed_via followed above lookup has
zero_above = (refl, refl)
