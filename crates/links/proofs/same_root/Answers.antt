-- By what the root is.
use Rattle.links.specs.Steps.{root_in, same_root}
use Rattle.links.proofs.same_root.Goals as goal

pub returns-in-Some : goal.returns-in-Some
unfolding same_root root_in
returns-in-Some c = rw c.in-Some.is c.is_the.ensures

pub returns-in-None : goal.returns-in-None
unfolding same_root root_in
returns-in-None c = rw c.in-None.is
