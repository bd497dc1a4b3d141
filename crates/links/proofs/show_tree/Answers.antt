-- By the tree that the root's snapshot names.
use Rattle.findings.proofs.Reports.{reports_as, reports_more}
use Rattle.links.proofs.Words.{tree_shown}
use Rattle.links.proofs.show_tree.Goals as goal

pub returns-clause-reports : goal.returns-clause-reports
returns-clause-reports c =
    reports_as (tree_shown _ _ c.id-id.ensures c.word-subvolume.ensures c.word-root.ensures c.tree_of.ensures c.is_the-back.ensures)
    (reports_more c.emit_if.ensures.reports c.show_master.ensures.reports)
