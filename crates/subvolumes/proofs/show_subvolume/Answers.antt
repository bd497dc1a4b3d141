-- By the tests.
use Rattle.std.proofs.Common.{◌∙◌, sym, arith}
use Rattle.findings.proofs.Reports.{reports_as, reports_more, reports_nil}
use Rattle.subvolumes.proofs.Members.{judged_no, judged_unlinked, judged_deleted, gone_long, gone_small}
use Rattle.subvolumes.proofs.show_subvolume.Goals as goal

pub word-requires : goal.word-requires
word-requires c = omega (arith, gone_long _ (sym c.is_gone.ensures ∙ c.if-is_gone.true))

pub show_deleted-requires : goal.show_deleted-requires
show_deleted-requires c = (omega (arith, gone_small _ (sym c.is_gone.ensures ∙ c.if-is_gone.true), c.offset-id.ensures), omega (arith, c.requires, c.emit_if.ensures.few))

pub returns-then-word-eq-SUBVOL_DELETED-clause-reports : goal.returns-then-word-eq-SUBVOL_DELETED-clause-reports
returns-then-word-eq-SUBVOL_DELETED-clause-reports c =
    let gone = sym c.is_gone.ensures ∙ c.if-is_gone.true in
    reports_as (judged_deleted _ _ _ gone c.offset-id.ensures c.word.ensures c.if-word-eq-SUBVOL_DELETED.true)
    (reports_more c.emit_if.ensures.reports c.show_deleted.ensures.reports)

pub returns-else-word-eq-SUBVOL_DELETED-clause-reports : goal.returns-else-word-eq-SUBVOL_DELETED-clause-reports
returns-else-word-eq-SUBVOL_DELETED-clause-reports c =
    let gone = sym c.is_gone.ensures ∙ c.if-is_gone.true in
    reports_as (judged_unlinked _ _ _ gone c.offset-id.ensures c.word.ensures c.if-word-eq-SUBVOL_DELETED.false) c.emit_if.ensures.reports

pub returns-else-is_gone-clause-reports : goal.returns-else-is_gone-clause-reports
returns-else-is_gone-clause-reports c = reports_nil (judged_no _ _ _ (sym c.is_gone.ensures ∙ c.if-is_gone.false))
