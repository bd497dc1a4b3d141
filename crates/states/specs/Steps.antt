-- What only contracts of private functions cite.
use Rattle.std.specs.Prelude.{ℕ, ◌+◌, cond, List, length, leb}
use Rattle.bits.specs.Bits.{le_at}

-- the word at byte `at` of a value, or 0 where the value ends before it does
unfoldable pub word_or_zero : List ℕ → ℕ → ℕ
word_or_zero value at = cond (leb (at + 4) (length value)) (le_at value at 4) 0
