-- By its tests.
use Rattle.std.proofs.Common.{◌∙◌, sym}
use Rattle.book.specs.Words.{holds}
use Rattle.deletions.specs.Steps.{is_live_subvolume}
use Rattle.deletions.proofs.is_live_subvolume.Goals as goal

pub returns-then-holds : goal.returns-then-holds
unfolding holds is_live_subvolume
returns-then-holds c = rw (sym c.holds.ensures.holds ∙ c.if-holds.true, c.word.ensures)

pub returns : goal.returns
unfolding holds is_live_subvolume
returns c = rw (sym c.holds.ensures.holds ∙ c.if-holds.false)
