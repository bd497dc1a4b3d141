-- By its tests.
use Rattle.std.proofs.Common.{◌∙◌, sym, ap, List, ℕ}
use Rattle.bits.specs.Bits.{le_at}
use Rattle.book.specs.Words.{holds}
use Rattle.deletions.proofs.Snapshots.{accounted_yes, accounted_no}
use Rattle.deletions.proofs.is_accounted.Goals as goal

pub returns-then-holds : goal.returns-then-holds
unfolding holds
returns-then-holds c =
    let word = c.le64-keys.ensures ∙ ap (λ (v : List ℕ). le_at v 0 8) c.value.ensures in
    accounted_yes _ c.inode-kind.ensures word (sym c.holds.ensures.holds ∙ c.if-holds.true)

pub returns : goal.returns
unfolding holds
returns c = accounted_no _ (sym c.holds.ensures.holds ∙ c.if-holds.false)
