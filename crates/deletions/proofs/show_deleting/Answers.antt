-- By its test.
use Rattle.findings.proofs.Reports.{reports_as, reports_nil}
use Rattle.deletions.proofs.Snapshots.{deleting_yes, deleting_no}
use Rattle.deletions.proofs.show_deleting.Goals as goal

pub returns-then-word-eq-SNAP_WILL_DELETE-clause-reports : goal.returns-then-word-eq-SNAP_WILL_DELETE-clause-reports
returns-then-word-eq-SNAP_WILL_DELETE-clause-reports c =
    reports_as (deleting_yes _ _ c.word.ensures c.if-word-eq-SNAP_WILL_DELETE.true) c.show_will_delete.ensures.reports

pub returns-else-word-eq-SNAP_WILL_DELETE-clause-reports : goal.returns-else-word-eq-SNAP_WILL_DELETE-clause-reports
returns-else-word-eq-SNAP_WILL_DELETE-clause-reports c = reports_nil (deleting_no _ _ c.word.ensures c.if-word-eq-SNAP_WILL_DELETE.false)
