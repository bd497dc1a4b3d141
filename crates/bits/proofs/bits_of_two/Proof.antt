-- `bits::bits_of_two` meets its contract, by `across`.
use Prim.Native.Nat.{◌+◌, ◌-◌, ◌*◌, ◌%◌, ◌^◌}
use mathlib.Core.Path.{◌≡◌}
use native.Mathlib.Omega.{arith}
use Rattle.bits.specs.Bits.{bits_at}
use Rattle.bits.proofs.Laws.{across, bits_fit}
use borrow.Author.Rules.{rules}
use Rattle.bits.proofs.bits_of_two.Statement.{statement}
use Rattle.bits.proofs.bits_of_two.Tie as tie

both : (c : tie.After-part-2) → let a = c.before.before.before.before.before.args in
    (c.before.before.part.result * 2 ^ (a.n - (8 - a.from % 8))) % 2 ^ 64 + c.part-2.result ≡ bits_at a.s.now a.from a.n
both c = rw (c.before.before.part.ensures, c.part-2.ensures) (across _ _ _ (omega arith) (omega arith))

add_result : tie.Need-overflow_add-result
add_result c = record { fits = rw (both c) (bits_fit _ _ _ (omega arith)) }

pub bits_of_two_spec : {M : Type 1} → statement M
bits_of_two_spec =
    tie.close
    (tie.spec
    (λ c. search rules)
    (λ c. search rules)
    (λ c. search rules)
    (λ c κs. search rules)
    (λ c. search rules)
    (λ c. search rules)
    (λ c. search rules)
    (λ c. search rules)
    (λ c κs. search rules)
    add_result
    (λ c. both c))
