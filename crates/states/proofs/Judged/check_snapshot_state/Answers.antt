-- `states::Judged::check_snapshot_state` meets its contract, by its two tests.
use Rattle.findings.proofs.Reports.{reports_more, reports_as}
use Rattle.states.specs.StateDistance.{snap_states}
use Rattle.states.proofs.Words.{snapshot_findings}
use Rattle.states.proofs.Judged.check_snapshot_state.Goals as goal

pub returns-clause-reports : goal.returns-clause-reports
unfolding snap_states
returns-clause-reports c =
    reports_as (snapshot_findings _ _ _ c.word_or_zero-word.ensures c.state_distance-nearest.ensures c.state_required.ensures)
    (reports_more c.emit_if.ensures.reports c.emit_if-2.ensures.reports)
