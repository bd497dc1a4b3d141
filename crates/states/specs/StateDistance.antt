-- "State distance is the least number of differing bits to a listed state word" (document 01); it gives "the distance and the nearest state, the first
-- listed of equals" (document 02, ticket 1).
use Rattle.std.specs.Prelude.{ℕ, zero, suc, ◌+◌, ◌/◌, ◌%◌, ◌^◌, cond, List, [], ◌∷◌, eqb, leb}
use Rattle.states.specs.declared.Nearest.{Nearest}

-- how many of the low n bits of x and y differ
unfoldable pub bits_apart : ℕ → ℕ → ℕ → ℕ
bits_apart zero x y = 0
bits_apart (suc n) x y = bits_apart n x y + cond (eqb (x / 2 ^ n % 2) (y / 2 ^ n % 2)) 0 1

-- how many bits of two 32-bit words differ
abbrev pub distance : ℕ → ℕ → ℕ
distance x y = bits_apart 32 x y

-- the nearer of two, "the first .. of equals"
unfoldable pub nearer : Nearest → Nearest → Nearest
nearer x y = cond (leb x.distance y.distance) x y

-- the nearest listed state, and the distance to it; 0 and 32 for an empty list
unfoldable pub state_distance : ℕ → List ℕ → Nearest
state_distance word [] = record { distance = 32; state = 0 }
state_distance word (state ∷ states) = nearer (record { distance = distance word state; state = state }) (state_distance word states)

-- the state words of snapshots: live, will_delete, no_keys, deleted
abbrev pub snap_live : ℕ
snap_live = 0x757c47a2

abbrev pub snap_will_delete : ℕ
snap_will_delete = 0x3316a8d2

abbrev pub snap_no_keys : ℕ
snap_no_keys = 0x372b5a01

abbrev pub snap_deleted : ℕ
snap_deleted = 0x7cd4a225

unfoldable pub snap_states : List ℕ
snap_states = snap_live ∷ snap_will_delete ∷ snap_no_keys ∷ snap_deleted ∷ []

-- the state words of subvolumes: live, unlinked, deleted
abbrev pub subvol_live : ℕ
subvol_live = 0x4ad5447e

abbrev pub subvol_unlinked : ℕ
subvol_unlinked = 0x2d358e8f

abbrev pub subvol_deleted : ℕ
subvol_deleted = 0x3c6b2d4c

unfoldable pub subvol_states : List ℕ
subvol_states = subvol_live ∷ subvol_unlinked ∷ subvol_deleted ∷ []
