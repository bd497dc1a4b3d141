-- `fields::check_key_fields` meets its contract: one part after the other.
use Rattle.findings.proofs.Reports.{reports_more, reports_as}
use Rattle.fields.proofs.Laws.{parts}
use Rattle.fields.proofs.check_key_fields.Goals as goal

pub returns-clause-reports : goal.returns-clause-reports
returns-clause-reports c =
    reports_as (parts _ _) (reports_more (reports_more c.check_head.ensures.reports c.check_value.ensures.reports) c.check_position.ensures.reports)
