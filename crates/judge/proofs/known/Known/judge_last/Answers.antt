-- The rules from `snapshot_links` on, one after the other.
use Rattle.findings.proofs.Reports.{reports_more}
use Rattle.judge.specs.Steps.{last_rules}
use Rattle.judge.proofs.known.Known.judge_last.Goals as goal

pub returns-clause-reports : goal.returns-clause-reports
unfolding last_rules
returns-clause-reports c = reports_more c.judge_links.ensures.reports (reports_more c.judge_gens.ensures.reports c.free_space.ensures.reports)
