-- `line_of` meets its contract: by what `ancestors_of` answers.
use mathlib.Core.Path.{refl}
use Rattle.ancestors.proofs.Beside.{lined_new}
use borrow.Author.Rules.{rules}
use native.Mathlib.Omega.{arith}
use Rattle.ancestors.proofs.line_of.Statement.{statement}
use Rattle.ancestors.proofs.line_of.Tie as tie

pub line_of_spec : {M : Type 1} → statement M
line_of_spec =
    tie.close
    (tie.spec
    (λ c κs. search rules)
    (λ c. search rules)
    (λ c. (lined_new _ _ _ c.ancestors_of-above.ensures, (refl, omega arith))))
