-- `fields::Judged::check_head` meets its contract: one finding after the other.
use Rattle.findings.proofs.Reports.{reports_more}
use Rattle.book.specs.Book.{is}
use Rattle.fields.specs.CheckKeyFields.{minimum_value}
use Rattle.fields.specs.Steps.{size_bad, snapshot_bad, check_head}
use Rattle.fields.proofs.Judged.check_head.Goals as goal

pub returns-clause-reports : goal.returns-clause-reports
unfolding check_head size_bad snapshot_bad minimum_value is
returns-clause-reports c =
    rw (← c.size_bad.ensures, ← c.snapshot_bad.ensures, ← c.minimum_value.ensures)
    (reports_more c.emit_if.ensures.reports (reports_more c.emit_if-2.ensures.reports c.emit_if-3.ensures.reports))
