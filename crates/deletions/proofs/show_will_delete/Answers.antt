-- By its tests.
use Rattle.findings.proofs.Reports.{reports_as, reports_more}
use Rattle.deletions.specs.Steps.{will_delete}
use Rattle.deletions.proofs.show_will_delete.Goals as goal

pub returns-clause-reports : goal.returns-clause-reports
unfolding will_delete
returns-clause-reports c =
    reports_as
    (rw (
      c.has-live.ensures,
      c.has-left.ensures,
      c.has-right.ensures,
      c.word.ensures,
      c.word-2.ensures,
      c.word-3.ensures,
      c.offset-id.ensures,
    ))
    (reports_more c.emit_if.ensures.reports c.emit_if-2.ensures.reports)
