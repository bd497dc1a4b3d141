-- By the snapshot that the table has for the subvolume.
use borrow.Author.Tests.{eq-eqb}
use Rattle.links.proofs.Words.{other_is}
use Rattle.links.proofs.bad_backref.Goals as goal

pub returns-then-subvolume-eq0 : goal.returns-then-subvolume-eq0
returns-then-subvolume-eq0 c = rw (eq-eqb c.args.subvolume 0 c.if-subvolume-eq0.true)

pub returns : goal.returns
returns c = other_is _ _ _ c.if-subvolume-eq0.false c.snapshot_of.ensures c.is_other.ensures
