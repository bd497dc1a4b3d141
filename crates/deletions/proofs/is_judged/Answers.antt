-- By its tests.
use Rattle.std.proofs.Common.{◌∙◌, sym}
use Rattle.book.specs.Words.{holds}
use Rattle.deletions.specs.SnapshotStates.{has_snap_state}
use Rattle.deletions.proofs.is_judged.Goals as goal

pub returns-then-holds-clause-judged : goal.returns-then-holds-clause-judged
unfolding holds has_snap_state
returns-then-holds-clause-judged c = rw (sym c.holds.ensures.holds ∙ c.if-holds.true, c.offset.ensures)

pub returns-clause-judged : goal.returns-clause-judged
unfolding holds has_snap_state
returns-clause-judged c = rw (sym c.holds.ensures.holds ∙ c.if-holds.false)
