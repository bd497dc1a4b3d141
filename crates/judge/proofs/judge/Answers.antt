-- The keys, then the rules across them.
use Rattle.std.proofs.Common.{arith}
use Rattle.book.proofs.Walk.{few_keys}
use Rattle.findings.proofs.Reports.{reports_as, reports_more}
use Rattle.judge.proofs.Laws.{list_of, reports_counted}
use Rattle.judge.proofs.judge.Goals as goal

pub returns-clause-reports : goal.returns-clause-reports
returns-clause-reports c = reports_as (list_of _) (reports_more c.judge_keys-present.ensures.reports c.judge_across.ensures.reports)

pub returns-clause-counted : goal.returns-clause-counted
returns-clause-counted c =
    reports_counted (reports_as (list_of _) (reports_more c.judge_keys-present.ensures.reports c.judge_across.ensures.reports))
    (omega (arith, few_keys c.args.book.opened, c.judge_keys-present.ensures.few, c.judge_across.ensures.few, c.requires.found))

pub returns-clause-few : goal.returns-clause-few
returns-clause-few c = omega (arith, few_keys c.args.book.opened, c.judge_keys-present.ensures.few, c.judge_across.ensures.few)
