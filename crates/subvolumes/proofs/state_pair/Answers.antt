-- By its tests.
use Rattle.std.proofs.Common.{◌∙◌, sym}
use Rattle.book.specs.Words.{holds}
use Rattle.subvolumes.proofs.States.{state_snapshot, state_tree, state_none}
use Rattle.subvolumes.proofs.state_pair.Goals as goal

pub returns-then-is_live_snapshot : goal.returns-then-is_live_snapshot
unfolding holds
returns-then-is_live_snapshot c = state_snapshot _ _ (sym c.is_live_snapshot.ensures.live ∙ c.if-is_live_snapshot.true) c.word.ensures

pub returns-then-holds : goal.returns-then-holds
unfolding holds
returns-then-holds c =
    state_tree _ _ (sym c.is_live_snapshot.ensures.live ∙ c.if-is_live_snapshot.false) (sym c.holds.ensures.holds ∙ c.if-holds.true) c.word-then-holds.ensures

pub returns : goal.returns
unfolding holds
returns c = state_none _ _ (sym c.is_live_snapshot.ensures.live ∙ c.if-is_live_snapshot.false) (sym c.holds.ensures.holds ∙ c.if-holds.false)
