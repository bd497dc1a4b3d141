-- By their number.
use Rattle.findings.proofs.Reports.{reports_as}
use Rattle.links.proofs.Words.{skips_shown}
use Rattle.links.proofs.show_skips.Goals as goal

pub returns-clause-reports : goal.returns-clause-reports
returns-clause-reports c = reports_as (skips_shown _ _ _ c.count_skips-bad.ensures) c.emit_if.ensures.reports
