-- By its tests.
use Rattle.std.proofs.Common.{◌∙◌, sym}
use Rattle.book.specs.Words.{holds}
use Rattle.subvolumes.specs.SubvolumeStates.{unavailable, has_subvol_state, subvol_state}
use Rattle.subvolumes.proofs.is_gone.Goals as goal

pub returns-then-not-holds : goal.returns-then-not-holds
unfolding holds unavailable has_subvol_state
returns-then-not-holds c = rw (sym c.holds.ensures.holds ∙ c.if-not-holds.true)

pub returns-then-state : goal.returns-then-state
unfolding holds unavailable has_subvol_state subvol_state
returns-then-state c = rw (sym c.holds.ensures.holds ∙ c.if-not-holds.false, ← c.word-state.ensures, c.if-state.true, c.offset.ensures)

pub returns : goal.returns
unfolding holds unavailable has_subvol_state subvol_state
returns c = rw (sym c.holds.ensures.holds ∙ c.if-not-holds.false, ← c.word-state.ensures, c.if-state.false)
