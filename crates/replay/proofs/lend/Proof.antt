-- What is lent is as long as said.
use mathlib.Core.Path.{sym}
use lib.Seq.{length-take-le}
use native.Mathlib.Omega.{arith}
use borrow.Author.Rules.{rules}
use Rattle.replay.proofs.lend.Statement.{statement}
use Rattle.replay.proofs.lend.Tie as tie

pub lend_spec : {M : Type 1} → statement M
lend_spec =
    tie.close
    (tie.spec
    (λ c κs. search rules)
    (λ c. search rules)
    (λ c κs. search rules)
    (λ c. search rules)
    (λ c. search rules)
    (λ c. sym (length-take-le _ _ (omega arith)))
    (λ c. search rules)
    (λ c. sym (length-take-le _ _ (omega arith)))
    (λ c κs. search rules)
    (λ c. search rules))
