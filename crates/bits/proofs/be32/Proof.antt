-- `bits::be32` meets its contract, by `be_at` at 4 bytes.
use native.Mathlib.Omega.{arith}
use native.Mathlib.Nat.{add-zero}
use Rattle.bits.specs.Bits.{be_at}
use borrow.Author.Rules.{rules}
use Rattle.bits.proofs.be32.Statement.{statement}
use Rattle.bits.proofs.be32.Tie as tie

returns : tie.Need-returns
unfolding be_at
returns c = simp add-zero (omega arith)

pub be32_spec : {M : Type 1} → statement M
be32_spec =
    tie.close
    (tie.spec
    (λ c κs. search rules)
    (λ c. search rules)
    (λ c. search rules)
    (λ c κs. search rules)
    (λ c. search rules)
    (λ c. search rules)
    (λ c. search rules)
    (λ c κs. search rules)
    (λ c. search rules)
    (λ c. search rules)
    (λ c. search rules)
    (λ c κs. search rules)
    (λ c. search rules)
    returns)
