-- By the mark.
use Rattle.dockwrench.specs.Steps.{asked_source}
use Rattle.dockwrench.proofs.asked_source.Goals as goal

pub returns-then-h : goal.returns-then-h
unfolding asked_source
returns-then-h c = rw c.if-h.true

pub returns : goal.returns
unfolding asked_source
returns c = rw c.if-h.false
