-- By the snapshot that the table has for the subvolume.
use Rattle.findings.proofs.Reports.{reports_as}
use Rattle.links.proofs.Words.{backref_is}
use Rattle.links.proofs.show_backref.Goals as goal

pub returns-clause-reports : goal.returns-clause-reports
returns-clause-reports c = reports_as (backref_is _ _ _ c.word-subvolume.ensures c.bad_backref-bad.ensures) c.emit_if.ensures.reports
