-- What a read gave.
use Rattle.std.specs.Prelude.{ℕ, min, ℤ, pos, negsuc, Result, Ok, Err}
use Rattle.report.specs.declared.ReadError.{ReadError}

-- by the answer of C's read into so many bytes: -1, or how many it put at the start of the buffer, 0 at the end of the input
unfoldable pub gave_of : ℤ → ℕ → Result ℕ ReadError
gave_of (pos k) most = Ok (min k most)
gave_of (negsuc k) most = Err (record {})
