-- By the snapshot that the table has for the subvolume.
use Rattle.findings.proofs.Reports.{reports_as}
use Rattle.links.proofs.Words.{master_there, master_absent}
use Rattle.links.proofs.show_master.Goals as goal

pub returns-in_default-clause-reports : goal.returns-in_default-clause-reports
returns-in_default-clause-reports c = reports_as (master_absent _ _ _ _ c.snapshot_of.ensures c.in_default.is) c.emit.ensures.reports

pub returns-clause-reports : goal.returns-clause-reports
returns-clause-reports c = reports_as (master_there _ _ _ _ c.snapshot_of.ensures c.in-Some.is c.tree_of.ensures c.is_other-other.ensures) c.emit_if.ensures.reports
