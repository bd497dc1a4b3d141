-- What stands above an id of a small table, in its array.
use mathlib.Core.Path.{◌≡◌, refl}
use mathlib.Core.List.{[], ◌∷◌}
use lib.ListN.{take}
use Rattle.book.specs.Maps.{lookup}
use Rattle.parents.specs.Chains.{chain_via, chain}
use Rattle.ancestors.specs.Lines.{padded, ancestors_of}

-- 9 is absent and still included
absent_array : ((ancestors_of ((5, 7) ∷ (7, 9) ∷ []) 5).len ≡ 2) × (take 3 (ancestors_of ((5, 7) ∷ (7, 9) ∷ []) 5).ids ≡ 7 ∷ 9 ∷ 0 ∷ [])
unfolding chain_via chain padded ancestors_of lookup
absent_array = (refl, refl)
