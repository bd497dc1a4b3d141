-- Nothing of a quiet key; of another what the rules find by its head and its value.
use Rattle.std.proofs.Common.{◌∙◌, sym}
use Rattle.findings.proofs.Reports.{reports_as, reports_more, reports_nil}
use Rattle.keys.proofs.Laws.{key_judged}
use Rattle.keys.proofs.Quiet.{quiet_none}
use Rattle.keys.proofs.judge_key.Goals as goal

pub returns-then-is_quiet-clause-reports : goal.returns-then-is_quiet-clause-reports
returns-then-is_quiet-clause-reports c =
    let a = c.args in
    reports_nil (quiet_none a.book.bytes.now a.index _ (sym c.is_quiet.ensures ∙ c.if-is_quiet.true))

pub returns-clause-reports : goal.returns-clause-reports
returns-clause-reports c =
    let a = c.args in
    reports_as (key_judged a.book a.key a.index c.head-head.ensures c.value-value.ensures)
    (reports_more c.check_key_device.ensures.reports
    (reports_more c.check_key_type.ensures.reports
    (reports_more c.check_key_fields.ensures.reports c.check_state_words.ensures.reports)))
