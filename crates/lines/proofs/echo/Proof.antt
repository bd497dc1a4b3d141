-- By the first byte.
use Prim.Native.Nat.{ℕ}
use mathlib.Core.Path.{ap}
use lib.Dec.{eqb}
use borrow.Author.Rules.{rules}
use Rattle.lines.proofs.echo.Statement.{statement}
use Rattle.lines.proofs.echo.Tie as tie

pub echo_spec : {M : Type 1} → statement M
echo_spec =
    tie.close
    (tie.spec
    (λ c κs. search rules)
    (λ c κs. search rules)
    (λ c κs. search rules)
    (λ c. ap (λ (m : ℕ). eqb m c.args.first) c.mark.ensures)
    (λ c. ap (λ (m : ℕ). eqb m c.args.first) c.mark.ensures))
