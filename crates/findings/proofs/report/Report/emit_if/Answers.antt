-- By the test: one finding more, or none.
use Rattle.std.proofs.Common.{refl}
use Rattle.findings.specs.Findings.{when}
use Rattle.findings.proofs.Reports.{reports_nil}
use Rattle.findings.proofs.report.Report.emit_if.Goals as goal

pub returns-then-yes-clause-reports : goal.returns-then-yes-clause-reports
unfolding when
returns-then-yes-clause-reports c = rw c.if-yes.true c.emit.ensures.reports

pub returns-else-yes-clause-reports : goal.returns-else-yes-clause-reports
unfolding when
returns-else-yes-clause-reports c = reports_nil (rw c.if-yes.false refl)
