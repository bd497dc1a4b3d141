-- `bits::le64` meets its contract: a word of 8 bytes is two of 4.
use native.Mathlib.Omega.{arith}
use Rattle.bits.proofs.Laws.{le_split}
use borrow.Author.Rules.{rules}
use Rattle.bits.proofs.le64.Statement.{statement}
use Rattle.bits.proofs.le64.Tie as tie

returns : tie.Need-returns
returns c =
    let a = c.before.before.before.args in
    omega (arith, le_split a.s.now a.at 4 4)

pub le64_spec : {M : Type 1} → statement M
le64_spec =
    tie.close
    (tie.spec
    (λ c κs. search rules)
    (λ c. search rules)
    (λ c. search rules)
    (λ c κs. search rules)
    (λ c. search rules)
    (λ c. search rules)
    (λ c. search rules)
    returns)
