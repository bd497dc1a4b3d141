-- One finding after the other.
use Rattle.findings.proofs.Reports.{reports_more}
use Rattle.buckets.specs.Steps.{entry_findings}
use Rattle.buckets.proofs.show_entry.Goals as goal

pub returns-clause-reports : goal.returns-clause-reports
unfolding entry_findings
returns-clause-reports c = rw c.is_free-free.ensures at (reports_more c.emit_if.ensures.reports c.emit_if-2.ensures.reports)
