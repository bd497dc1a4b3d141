-- `states::check_state_words` meets its contract, by the btree and the type of the key.
use Rattle.std.proofs.Common.{arith, sym, tests}
use borrow.Author.Tests.{le-leb, lt-leb}
use Rattle.findings.specs.Findings.{only}
use Rattle.findings.proofs.Reports.{reports_as, reports_nil}
use Rattle.book.specs.Book.{is, bkey}
use Rattle.states.specs.CheckStateWords.{check_state_words}
use Rattle.states.proofs.Words.{of_snapshot, of_subvolume, of_neither}
use Rattle.states.proofs.check_state_words.Goals as goal

pub returns-in-9-eq22-clause-reports : goal.returns-in-9-eq22-clause-reports
unfolding is
returns-in-9-eq22-clause-reports c =
    let a = c.args in
    let key = c.in-9-eq22 in
    reports_as (of_snapshot _ _ (bkey a.head a.value.now) (rw (key.is-0, key.is-1, le-leb 24 _ c.if-value-ge24.true))) c.check_snapshot_state.ensures.reports

pub returns-else-value-ge24-clause-reports : goal.returns-else-value-ge24-clause-reports
unfolding is
returns-else-value-ge24-clause-reports c =
    let a = c.args in
    let key = c.in-9-eq22 in
    reports_nil (sym (of_neither _ _ (bkey a.head a.value.now) (rw (key.is-0, key.is-1, lt-leb 24 _ c.if-value-ge24.false)) (rw key.is-0)))

pub returns-in-8-eq21-clause-reports : goal.returns-in-8-eq21-clause-reports
unfolding is
returns-in-8-eq21-clause-reports c =
    let a = c.args in
    let key = c.in-8-eq21 in
    reports_as (of_subvolume _ _ (bkey a.head a.value.now) (rw key.is-0) (rw (key.is-0, key.is-1))) c.check_subvolume.ensures.reports

pub returns-clause-reports : goal.returns-clause-reports
unfolding check_state_words is only
returns-clause-reports c = reports_nil (grind (arith, tests))

pub returns-2-clause-reports : goal.returns-2-clause-reports
unfolding check_state_words is only
returns-2-clause-reports c = reports_nil (grind (arith, tests))

pub returns-3-clause-reports : goal.returns-3-clause-reports
unfolding check_state_words is only
returns-3-clause-reports c = reports_nil (grind (arith, tests))
