-- `states::Judged::check_subvolume_word` meets its contract, by its three tests, where the word is set.
use Rattle.std.proofs.Common.{ap, sym, ◌∙◌}
use Rattle.findings.proofs.Reports.{reports_more, reports_as, reports_nil}
use Rattle.states.specs.StateDistance.{subvol_states}
use Rattle.states.specs.CheckStateWords.{subvolume_word}
use Rattle.states.proofs.Words.{word_findings, no_word}
use Rattle.states.proofs.Judged.check_subvolume_word.Goals as goal

pub returns-then-word-eq0-clause-reports : goal.returns-then-word-eq0-clause-reports
returns-then-word-eq0-clause-reports c = reports_nil (ap (subvolume_word _ _) c.if-word-eq0.true ∙ sym (no_word _ _))

pub returns-clause-reports : goal.returns-clause-reports
unfolding subvol_states
returns-clause-reports c =
    reports_as (word_findings _ _ _ c.state_distance-nearest.ensures c.state_required.ensures c.if-word-eq0.false)
    (reports_more c.emit_if.ensures.reports (reports_more c.emit_if-2.ensures.reports c.emit_if-3.ensures.reports))
