-- By what the word is.
use Rattle.links.specs.SnapshotLinks.{is_the}
use Rattle.links.proofs.is_the.Goals as goal

pub returns-in-Some : goal.returns-in-Some
unfolding is_the
returns-in-Some c = rw c.in-Some.is

pub returns-in-None : goal.returns-in-None
unfolding is_the
returns-in-None c = rw c.in-None.is
