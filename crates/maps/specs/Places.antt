-- What stands for such a map in the work words: sorted pairs of a number and a place. A place lies below 2 ^ 32; two maps and sets of
-- numbers below 2 ^ 32 share the words by what stands above that.
use Rattle.std.specs.Prelude.{ℕ, ◌+◌, ◌*◌, ◌/◌, ◌%◌, ◌^◌, Bool, false, cond, not, ◌&&◌, List, [], ◌∷◌, eqb, None, Option, Some}
use Rattle.pairs.specs.Pairs.{pair, or_else}

-- the pair of a number and a place in one of the maps
unfoldable pub place_pair : ℕ → ℕ → ℕ → ℕ
place_pair which number place = pair number (which * 2 ^ 32 + place)

-- the parts of such a pair
unfoldable pub number_in : ℕ → ℕ
number_in x = x / 2 ^ 64

unfoldable pub which_in : ℕ → ℕ
which_in x = x % 2 ^ 64 / 2 ^ 32

unfoldable pub place_in : ℕ → ℕ
place_in x = x % 2 ^ 32

-- a pair of this map with this number
unfoldable pub is_for : ℕ → ℕ → ℕ → Bool
is_for which number x = eqb (number_in x) number && eqb (which_in x) which

-- the place in the last pair of a map with a number
unfoldable pub last_place : ℕ → ℕ → List ℕ → Option ℕ
last_place which number [] = None
last_place which number (x ∷ xs) = or_else (last_place which number xs) (cond (is_for which number x) (Some (place_in x)) None)

-- whether the first of the pairs is of this map with this number
unfoldable pub goes_on : ℕ → ℕ → List ℕ → Bool
goes_on which number [] = false
goes_on which number (x ∷ xs) = is_for which number x

-- of sorted pairs, each number of a map with its last place, in order
unfoldable pub last_places : ℕ → List ℕ → List (ℕ × ℕ)
last_places which [] = []
last_places which (x ∷ xs) =
    cond (eqb (which_in x) which && not (goes_on which (number_in x) xs)) ((number_in x, place_in x) ∷ last_places which xs) (last_places which xs)
