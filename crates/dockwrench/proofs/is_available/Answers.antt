-- By the test.
use mathlib.Core.Path.{sym, ◌∙◌}
use Rattle.dockwrench.specs.Answers.{availability_by}
use Rattle.dockwrench.proofs.is_available.Goals as goal

pub returns-then-is_unavailable : goal.returns-then-is_unavailable
unfolding availability_by
returns-then-is_unavailable c = rw (sym c.is_unavailable.ensures ∙ c.if-is_unavailable.true)

pub returns : goal.returns
unfolding availability_by
returns c = rw (sym c.is_unavailable.ensures ∙ c.if-is_unavailable.false)
