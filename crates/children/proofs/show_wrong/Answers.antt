-- By whether the key is an entry, and by its child's parent.
use Rattle.std.proofs.Common.{◌∙◌, sym}
use Rattle.findings.specs.Findings.{only}
use Rattle.findings.proofs.Reports.{reports_as, reports_nil}
use Rattle.book.proofs.Maps.{word_is, word_absent}
use Rattle.children.proofs.Children.{wrong_parent, wrong_none}
use Rattle.children.proofs.show_wrong.Goals as goal

pub returns-then-not-is-clause-reports : goal.returns-then-not-is-clause-reports
unfolding only
returns-then-not-is-clause-reports c = let e = sym c.is.ensures ∙ c.if-not-is.true in reports_nil (rw e)

pub returns-in-Some-clause-reports : goal.returns-in-Some-clause-reports
unfolding only
returns-in-Some-clause-reports c =
    let e = sym c.is.ensures ∙ c.if-not-is.false in
    let wrong = wrong_parent _ _ (word_is _ (sym c.find_parent.ensures ∙ c.in-Some.is)) c.inode-inode.ensures c.offset-child.ensures in
    reports_as (rw e wrong) c.emit_if.ensures.reports

pub returns-in-None-clause-reports : goal.returns-in-None-clause-reports
unfolding only
returns-in-None-clause-reports c =
    let e = sym c.is.ensures ∙ c.if-not-is.false in
    let wrong = wrong_none _ _ (word_absent _ (sym c.find_parent.ensures ∙ c.in-None.is)) c.offset-child.ensures in
    reports_as (rw e wrong) c.emit.ensures.reports
