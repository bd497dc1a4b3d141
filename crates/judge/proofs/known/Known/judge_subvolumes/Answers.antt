-- Without subvolumes there is nothing to find; else one rule after the other.
use Rattle.findings.proofs.Reports.{reports_more, reports_nil}
use Rattle.judge.specs.Steps.{subvolume_rules}
use Rattle.judge.proofs.Absent.{lacks_subvolumes, subvolumes_none}
use Rattle.judge.proofs.known.Known.judge_subvolumes.Goals as goal

pub returns-then-self-clause-reports : goal.returns-then-self-clause-reports
unfolding subvolume_rules
returns-then-self-clause-reports c = reports_more c.subvolume_states.ensures.reports c.snapshot_claims.ensures.reports

pub returns-else-self-clause-reports : goal.returns-else-self-clause-reports
returns-else-self-clause-reports c = reports_nil (subvolumes_none _ (lacks_subvolumes _ c.args.self.all c.if-self.false))
