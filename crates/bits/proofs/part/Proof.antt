-- `bits::part` meets its contract: the shift of 1 loses nothing, since `size` is at most 8.
use borrow.Author.Rules.{rules}
use Prim.Native.Nat.{ℕ, ◌*◌, ◌%◌, ◌^◌, ◌<◌}
use mathlib.Core.Path.{◌≡◌}
use native.Mathlib.Nat.{one-mul, mod-eq_of_lt}
use native.Mathlib.Omega.{arith}
use lib.Pow.{pow_pos, pow-lt}
use Rattle.bits.proofs.part.Statement.{statement}
use Rattle.bits.proofs.part.Tie as tie

-- a 1 shifted left by less than 64
one_shl : (k : ℕ) → k < 64 → (1 * 2 ^ k) % 2 ^ 64 ≡ 2 ^ k
one_shl k h = rw one-mul (mod-eq_of_lt (pow-lt h))

rem_result : tie.Need-nonzero_rem-result
rem_result c = rw (one_shl c.args.size (omega arith)) (pow_pos c.args.size)

returns : tie.Need-returns
returns c = rw (one_shl c.args.size (omega arith))

pub part_spec : {M : Type 1} → statement M
part_spec =
    tie.close
    (tie.spec
    (λ c. search rules)
    (λ c. search rules)
    rem_result
    returns)
