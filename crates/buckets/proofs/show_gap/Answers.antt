-- An empty range of buckets gives nothing.
use borrow.Author.Tests.{le-ltb}
use Rattle.findings.specs.Findings.{only}
use Rattle.findings.proofs.Reports.{reports_nil}
use Rattle.buckets.specs.Steps.{gap_of}
use Rattle.buckets.proofs.show_gap.Goals as goal

pub returns-clause-reports : goal.returns-clause-reports
unfolding gap_of only
returns-clause-reports c = reports_nil (rw (le-ltb c.args.from c.args.to c.if-from-to.false))
