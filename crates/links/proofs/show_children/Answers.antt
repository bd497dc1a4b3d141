-- Child after child.
use Rattle.findings.proofs.Reports.{reports_as, reports_more}
use Rattle.links.proofs.Words.{children_are}
use Rattle.links.proofs.show_children.Goals as goal

pub returns-clause-reports : goal.returns-clause-reports
returns-clause-reports c =
    reports_as (children_are _ _ _ c.word-left.ensures c.word-right.ensures c.bad_child-one.ensures c.bad_child-other.ensures)
    (reports_more c.emit_if.ensures.reports c.emit_if-2.ensures.reports)
