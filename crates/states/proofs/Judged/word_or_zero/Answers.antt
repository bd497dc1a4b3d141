-- `states::Judged::word_or_zero` meets its contract, by the test.
use borrow.Author.Tests.{le-leb, lt-leb}
use Rattle.states.specs.Steps.{word_or_zero}
use Rattle.states.proofs.Judged.word_or_zero.Goals as goal

pub returns-then-at-self : goal.returns-then-at-self
unfolding word_or_zero
returns-then-at-self c = simp (le-leb _ _ c.if-at-self.true) c.le32.ensures

pub returns : goal.returns
unfolding word_or_zero
returns c = simp (lt-leb _ _ c.if-at-self.false)
