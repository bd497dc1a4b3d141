-- `fields::Judged::check_snapshot_pad` meets its contract: shorter values have no pad.
use borrow.Author.Tests.{lt-leb}
use Rattle.findings.specs.Findings.{when}
use Rattle.findings.proofs.Reports.{reports_nil}
use Rattle.fields.specs.CheckKeyFields.{check_snapshot_pad}
use Rattle.fields.proofs.Judged.check_snapshot_pad.Goals as goal

pub returns-then-self-lt64-clause-reports : goal.returns-then-self-lt64-clause-reports
unfolding check_snapshot_pad when
returns-then-self-lt64-clause-reports c = reports_nil (simp (lt-leb 64 _ c.if-self-lt64.true))
