-- By whether pair i is there.
use mathlib.Core.Path.{◌∙◌}
use Rattle.maps.proofs.Last.{goes_at, goes_past}
use borrow.Author.Rules.{rules}
use Rattle.maps.proofs.goes_on.Statement.{statement}
use Rattle.maps.proofs.goes_on.Tie as tie

pub goes_on_spec : {M : Type 1} → statement M
goes_on_spec =
    tie.close
    (tie.spec
    (λ c κs. search rules)
    (λ c. c.is_for.ensures ∙ goes_at _ _ _ c.if-i-n.true _ _)
    (λ c. goes_past _ _ _ _ _ c.if-i-n.false))
