-- `bits::byte` meets its contract: an element of a slice of bytes is below 256.
use native.Mathlib.Omega.{arith}
use mathlib.Core.Path.{refl}
use borrow.Author.Rules.{rules}
use Rattle.bits.proofs.byte.Statement.{statement}
use Rattle.bits.proofs.byte.Tie as tie

cast_result : tie.Need-overflow_cast-result
cast_result c = omega (arith, c.shared_slice_known-1.given c.before.args.at)

returns : tie.Need-returns
returns c = (refl, omega (arith, c.shared_slice_known-1.given c.before.args.at))

pub byte_spec : {M : Type 1} → statement M
byte_spec =
    tie.close
    (tie.spec
    (λ c. search rules)
    cast_result
    returns)
