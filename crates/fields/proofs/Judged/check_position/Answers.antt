-- `fields::Judged::check_position` meets its contract: no kind, no finding.
use Rattle.std.proofs.Common.{sym, ◌∙◌}
use Rattle.findings.proofs.Reports.{reports_nil}
use Rattle.fields.proofs.Judged.check_position.Goals as goal

pub returns-in_default-clause-reports : goal.returns-in_default-clause-reports
returns-in_default-clause-reports c = reports_nil (sym c.position_kind.ensures ∙ rw c.in_default.is)
