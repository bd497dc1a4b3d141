-- "The choice is never a toss" (document 02, ticket 1).
use Rattle.std.specs.Prelude.{ℕ, ◌≤◌, ◌<◌, ◌≡◌, Bool, true, ◌&&◌, leb}
use mathlib.Core.List.{List, [], ◌∷◌, Memᴰ}
use Rattle.states.specs.StateDistance.{distance, state_distance, snap_states, subvol_states}

-- a state lies n bits or more from each of these
unfoldable pub far_from : ℕ → ℕ → List ℕ → Bool
far_from n s [] = true
far_from n s (t ∷ ts) = leb n (distance s t) && far_from n s ts

-- the states of a list lie n bits or more apart
unfoldable pub apart : ℕ → List ℕ → Bool
apart n [] = true
apart n (s ∷ ss) = far_from n s ss && apart n ss

-- "both lists together"
unfoldable pub state_lists : List (List ℕ)
state_lists = snap_states ∷ subvol_states ∷ []

-- "a word within six bits of one listed state is farther than six from every other state of its list": so that state is the one given
pub record NeverAToss (states : List ℕ) : Type 0 where
  pub others : (word s t : ℕ) → Memᴰ s states → Memᴰ t states → (s ≡ t → ⊥) → distance word s ≤ 6 → 6 < distance word t
  pub given : (word s : ℕ) → Memᴰ s states → distance word s ≤ 6 → state_distance word states ≡ record { distance = distance word s; state = s }
