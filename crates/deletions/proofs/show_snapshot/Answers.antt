-- By its test.
use Rattle.std.proofs.Common.{◌∙◌, sym}
use Rattle.findings.proofs.Reports.{reports_as, reports_more, reports_nil}
use Rattle.deletions.proofs.Snapshots.{sets_yes, sets_no}
use Rattle.deletions.proofs.show_snapshot.Goals as goal

pub returns-then-is_judged-clause-reports : goal.returns-then-is_judged-clause-reports
returns-then-is_judged-clause-reports c =
    reports_as (sets_yes _ _ (sym c.is_judged.ensures.judged ∙ c.if-is_judged.true))
    (reports_more c.show_deleting.ensures.reports c.show_has_data.ensures.reports)

pub returns-else-is_judged-clause-reports : goal.returns-else-is_judged-clause-reports
returns-else-is_judged-clause-reports c = reports_nil (sets_no _ _ (sym c.is_judged.ensures.judged ∙ c.if-is_judged.false))
