-- The three parts do not overlap.
use Rattle.dockwrench.specs.Answers.{packed}
use Rattle.dockwrench.proofs.Laws.{apart}
use borrow.Author.Rules.{rules}
use native.Mathlib.Omega.{arith}
use Rattle.dockwrench.proofs.pack.Statement.{statement}
use Rattle.dockwrench.proofs.pack.Tie as tie

returns : tie.Need-returns
unfolding packed
returns c = (omega arith, apart (omega arith) (omega arith) (omega arith) (omega arith))

pub pack_spec : {M : Type 1} → statement M
pack_spec =
    tie.close
    (tie.spec
    (λ c. search rules)
    (λ c. search rules)
    (λ c. search rules)
    (λ c. search rules)
    returns)
