-- By what the word is.
use Rattle.links.specs.SnapshotLinks.{is_other}
use Rattle.links.proofs.is_other.Goals as goal

pub returns-in-Some : goal.returns-in-Some
unfolding is_other
returns-in-Some c = rw c.in-Some.is

pub returns-in-None : goal.returns-in-None
unfolding is_other
returns-in-None c = rw c.in-None.is
