-- `states::Judged::check_subvolume_state` meets its contract, by its test.
use Rattle.std.proofs.Common.{Bool, ◌&&◌, ap₂}
use Rattle.findings.specs.Findings.{finding, when}
use Rattle.findings.proofs.Reports.{reports_as}
use Rattle.states.proofs.Words.{unset}
use Rattle.states.proofs.Judged.check_subvolume_state.Goals as goal

pub returns-clause-reports : goal.returns-clause-reports
returns-clause-reports c =
    reports_as
    (ap₂ (λ (a b : Bool). when (a && b) (finding 25 c.args.self.now.index 0)) c.state_required-required.ensures (unset _ c.word_or_zero-word.ensures))
    c.emit_if.ensures.reports
