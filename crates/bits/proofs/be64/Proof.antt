-- `bits::be64` meets its contract: a word of 8 bytes is two of 4.
use native.Mathlib.Omega.{arith}
use Rattle.bits.proofs.Laws.{be_split}
use borrow.Author.Rules.{rules}
use Rattle.bits.proofs.be64.Statement.{statement}
use Rattle.bits.proofs.be64.Tie as tie

returns : tie.Need-returns
returns c =
    let a = c.before.before.before.args in
    omega (arith, be_split a.s.now a.at 4 4)

pub be64_spec : {M : Type 1} → statement M
be64_spec =
    tie.close
    (tie.spec
    (λ c κs. search rules)
    (λ c. search rules)
    (λ c. search rules)
    (λ c κs. search rules)
    (λ c. search rules)
    (λ c. search rules)
    (λ c. search rules)
    returns)
