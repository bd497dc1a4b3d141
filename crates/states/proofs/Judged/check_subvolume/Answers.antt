-- `states::Judged::check_subvolume` meets its contract, by its words.
use Rattle.findings.proofs.Reports.{reports_more, reports_as}
use Rattle.states.proofs.Words.{subvolume_findings}
use Rattle.states.proofs.Judged.check_subvolume.Goals as goal

pub returns-clause-reports : goal.returns-clause-reports
returns-clause-reports c =
    reports_as (subvolume_findings _ _ _ c.word_or_zero.ensures c.word_or_zero-pad.ensures)
    (reports_more c.check_subvolume_state.ensures.reports (reports_more c.check_subvolume_word.ensures.reports c.emit_if.ensures.reports))
