-- By what the root is.
use Rattle.links.specs.SnapshotLinks.{wrong_depth}
use Rattle.links.specs.Steps.{root_in}
use Rattle.links.proofs.wrong_depth.Goals as goal

pub returns-in-Some : goal.returns-in-Some
unfolding wrong_depth root_in
returns-in-Some c = rw c.in-Some.is

pub returns-in-None : goal.returns-in-None
unfolding wrong_depth root_in
returns-in-None c = rw c.in-None.is
