-- `near_parent` meets its contract: a hint of 16 bits fits where it is cast to, and none past the reach is returned.
use borrow.Author.Rules.{rules}
use native.Mathlib.Omega.{arith}
use Rattle.ancestors.proofs.near_parent.Statement.{statement}
use Rattle.ancestors.proofs.near_parent.Tie as tie

cast_hint : tie.Need-overflow_cast-hint
cast_hint c = omega (arith, (c.shared_slice_known-1.given c.args.here).fits)

pub near_parent_spec : {M : Type 1} → statement M
near_parent_spec =
    tie.close
    (tie.spec
    (λ c. search rules)
    (λ c. search rules)
    (λ c. search rules)
    cast_hint
    (λ c. search rules)
    (λ c. search rules)
    (λ c. search rules)
    (λ c. omega arith))
