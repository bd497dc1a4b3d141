-- `links::source_of` meets its contract: by the mark.
use Rattle.links.specs.Steps.{source_of}
use Rattle.links.proofs.source_of.Goals as goal

pub returns-then-h : goal.returns-then-h
unfolding source_of
returns-then-h c = rw c.if-h.true

pub returns : goal.returns
unfolding source_of
returns c = rw c.if-h.false
