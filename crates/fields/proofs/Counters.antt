-- How many counters a value holds, by its length in bytes. Document 02, ticket 3: "compare the length with 8 and 32, without a division.
-- That this equals a quotient of 0 or over 3 is proved for every length".
use mathlib.Core.Path.{◌≡◌}
use mathlib.Core.Logic.{◌↔◌}
use Prim.Native.Nat.{ℕ, ◌/◌, ◌≤◌, ◌<◌}
use native.Mathlib.Omega.{arith}

-- a length below 8 is a quotient of 0, one of 32 or more a quotient over 3, and no other is
pub counters_by_length : (bytes : ℕ) → (bytes < 8 ↔ bytes / 8 ≡ 0) × (32 ≤ bytes ↔ 3 < bytes / 8)
counters_by_length bytes = omega arith
