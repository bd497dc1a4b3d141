-- By its tests.
use Rattle.std.proofs.Common.{◌∙◌, sym}
use Rattle.book.specs.Words.{holds}
use Rattle.subvolumes.specs.SubvolumeStates.{is_live_snapshot}
use Rattle.subvolumes.proofs.is_live_snapshot.Goals as goal

pub returns-then-holds-clause-live : goal.returns-then-holds-clause-live
unfolding holds is_live_snapshot
returns-then-holds-clause-live c = rw (sym c.holds.ensures.holds ∙ c.if-holds.true, c.word.ensures)

pub returns-clause-live : goal.returns-clause-live
unfolding holds is_live_snapshot
returns-clause-live c = rw (sym c.holds.ensures.holds ∙ c.if-holds.false)
