-- Without keys of both btrees there is nothing to find.
use Rattle.findings.proofs.Reports.{reports_nil}
use Rattle.pairs.proofs.Order.{both_false}
use Rattle.judge.proofs.Absent.{lacks_snapshots, lacks_trees, links_none}
use Rattle.judge.proofs.known.Known.judge_links.Goals as goal

pub returns-else-self-clause-reports : goal.returns-else-self-clause-reports
returns-else-self-clause-reports c =
    let p = c.args.self in
    reports_nil (links_none _ (lacks_snapshots _ p.all (both_false _ _ c.if-self.false).0) (lacks_trees _ p.all (both_false p.present.snapshots _ c.if-self.false).1))
