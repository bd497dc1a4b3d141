-- Without snapshots there is nothing to find; else one rule after the other.
use Rattle.findings.proofs.Reports.{reports_more, reports_nil}
use Rattle.judge.specs.Steps.{snapshot_rules}
use Rattle.judge.proofs.Absent.{lacks_snapshots, snapshots_none}
use Rattle.judge.proofs.known.Known.judge_snapshots.Goals as goal

pub returns-then-self-clause-reports : goal.returns-then-self-clause-reports
unfolding snapshot_rules
returns-then-self-clause-reports c = reports_more c.snapshot_states.ensures.reports c.snapshot_subvol_flags.ensures.reports

pub returns-else-self-clause-reports : goal.returns-else-self-clause-reports
returns-else-self-clause-reports c = reports_nil (snapshots_none _ (lacks_snapshots _ c.args.self.all c.if-self.false))
