-- `bits::le32` meets its contract, by `le_at` at 4 bytes.
use native.Mathlib.Omega.{arith}
use native.Mathlib.Nat.{add-zero}
use Rattle.bits.specs.Bits.{le_at}
use borrow.Author.Rules.{rules}
use Rattle.bits.proofs.le32.Statement.{statement}
use Rattle.bits.proofs.le32.Tie as tie

returns : tie.Need-returns
unfolding le_at
returns c = simp add-zero (omega arith)

pub le32_spec : {M : Type 1} → statement M
le32_spec =
    tie.close
    (tie.spec
    (λ c κs. search rules)
    (λ c. search rules)
    (λ c κs. search rules)
    (λ c. search rules)
    (λ c. search rules)
    (λ c. search rules)
    (λ c κs. search rules)
    (λ c. search rules)
    (λ c. search rules)
    (λ c. search rules)
    (λ c κs. search rules)
    (λ c. search rules)
    (λ c. search rules)
    returns)
