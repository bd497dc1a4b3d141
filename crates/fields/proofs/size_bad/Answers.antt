-- `fields::size_bad` meets its contract, by the test.
use Rattle.std.proofs.Common.{sym, ◌∙◌}
use Rattle.fields.specs.CheckKeyFields.{size_zero}
use Rattle.fields.proofs.Laws.{size_may, size_row}
use Rattle.fields.proofs.size_bad.Goals as goal

pub returns-then-h : goal.returns-then-h
returns-then-h c = sym (size_may _ c.if-h.true)

pub returns : goal.returns
unfolding size_zero
returns c = c.has_row.ensures ∙ size_row _ c.if-h.false
