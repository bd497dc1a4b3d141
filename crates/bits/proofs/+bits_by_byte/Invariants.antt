use Rattle.std.proofs.Common.{◌≡◌, ◌+◌, ◌*◌, ◌<◌, ◌≤◌, ◌/◌, ◌%◌, ◌^◌, length, get_or, ℕ, ◌-◌}
use Rattle.bits.specs.Bits.{bits_at, be_at, le_at}
use Rattle.bits.proofs.+bits_by_byte.Given as goal

-- proposed from what the function passes where it calls itself
abbrev pub decreases-bits_by_byte : goal.decreases-bits_by_byte
decreases-bits_by_byte l = l.n
