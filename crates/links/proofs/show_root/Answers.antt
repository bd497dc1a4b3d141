-- By the root that the tree names, and by the links.
use Rattle.findings.proofs.Reports.{reports_as, reports_more}
use Rattle.links.proofs.Words.{root_shown}
use Rattle.links.proofs.show_root.Goals as goal

pub returns-clause-reports : goal.returns-clause-reports
returns-clause-reports c =
    reports_as (root_shown _ _ _ _ c.word-tree.ensures c.word-depth.ensures c.tree_root.ensures c.same_root-same.ensures c.wrong_depth-wrong.ensures)
    (reports_more c.emit_if.ensures.reports c.emit_if-2.ensures.reports)
