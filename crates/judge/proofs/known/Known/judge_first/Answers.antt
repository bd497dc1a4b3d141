-- The rules up to `subvolume_children`, one after the other.
use Rattle.findings.proofs.Reports.{reports_more}
use Rattle.judge.specs.Steps.{first_rules}
use Rattle.judge.proofs.known.Known.judge_first.Goals as goal

pub returns-clause-reports : goal.returns-clause-reports
unfolding first_rules
returns-clause-reports c = reports_more c.judge_subvolumes.ensures.reports (reports_more c.judge_snapshots.ensures.reports c.judge_children.ensures.reports)
