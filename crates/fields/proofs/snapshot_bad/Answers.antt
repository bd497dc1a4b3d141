-- `fields::snapshot_bad` meets its contract, by the test of 0.
use borrow.Author.Tests.{eq-eqb, ne_eqb}
use Rattle.fields.specs.CheckKeyFields.{snapshot_zero}
use Rattle.fields.specs.Steps.{snapshot_bad}
use Rattle.fields.proofs.snapshot_bad.Goals as goal

pub returns-then-h-eq0 : goal.returns-then-h-eq0
unfolding snapshot_bad
returns-then-h-eq0 c = simp (eq-eqb _ _ c.if-h-eq0.true)

pub returns : goal.returns
unfolding snapshot_bad snapshot_zero
returns c = simp (ne_eqb _ _ c.if-h-eq0.false) c.has_row.ensures
