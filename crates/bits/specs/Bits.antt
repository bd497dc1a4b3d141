-- Numbers that stand in a list of bytes: by bits, as a book is packed, and by whole bytes.
use Rattle.std.specs.Prelude.{ℕ, zero, suc, ◌+◌, ◌-◌, ◌*◌, ◌/◌, ◌%◌, ◌^◌, List, get_or}

-- bit k of the bytes s: bit 0 is the most significant of the first byte
unfoldable pub bit : List ℕ → ℕ → ℕ
bit s k = get_or s (k / 8) 0 / 2 ^ (7 - k % 8) % 2

-- the number that the n bits from bit p on make, the most significant first
unfoldable pub bits_at : List ℕ → ℕ → ℕ → ℕ
bits_at s p zero = 0
bits_at s p (suc n) = bits_at s p n * 2 + bit s (p + n)

-- the number that the k bytes from byte i on make, the most significant first
unfoldable pub be_at : List ℕ → ℕ → ℕ → ℕ
be_at s i zero = 0
be_at s i (suc k) = be_at s i k * 256 + get_or s (i + k) 0

-- the number that the k bytes from byte i on make, the least significant first
unfoldable pub le_at : List ℕ → ℕ → ℕ → ℕ
le_at s i zero = 0
le_at s i (suc k) = le_at s i k + 256 ^ k * get_or s (i + k) 0
