-- The eight rules, in two parts.
use Rattle.findings.proofs.Reports.{reports_more}
use Rattle.judge.specs.Steps.{across_rules}
use Rattle.judge.proofs.known.Known.judge_across.Goals as goal

pub returns-clause-reports : goal.returns-clause-reports
unfolding across_rules
returns-clause-reports c = reports_more c.judge_first.ensures.reports c.judge_last.ensures.reports
