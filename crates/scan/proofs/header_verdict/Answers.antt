-- Each of its tests refuses, and past them the header passes.
use borrow.Author.Tests.{lt-ltb, le-ltb}
use Rattle.book.specs.Refusals.{refuse, ◌then◌, header_verdict}
use Rattle.scan.proofs.header_verdict.Goals as goal

pub returns-then-h : goal.returns-then-h
unfolding header_verdict ◌then◌ refuse
returns-then-h c = simp (c.if-h.true, c.at.ensures)

pub returns-then-h-2 : goal.returns-then-h-2
unfolding header_verdict ◌then◌ refuse
returns-then-h-2 c = simp (c.if-h.false, c.if-h-2.true, c.at-then-h-2.ensures)

pub returns-then-h-gt-PARENTS_MAX : goal.returns-then-h-gt-PARENTS_MAX
unfolding header_verdict ◌then◌ refuse
returns-then-h-gt-PARENTS_MAX c = simp (c.if-h.false, c.if-h-2.false, lt-ltb _ _ c.if-h-gt-PARENTS_MAX.true, c.at-then-h-gt-PARENTS_MAX.ensures)

pub returns : goal.returns
unfolding header_verdict ◌then◌ refuse
returns c = simp (c.if-h.false, c.if-h-2.false, le-ltb _ _ c.if-h-gt-PARENTS_MAX.false)
