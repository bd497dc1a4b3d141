-- Without keys of both btrees there is nothing to find.
use Rattle.findings.proofs.Reports.{reports_nil}
use Rattle.pairs.proofs.Order.{both_false}
use Rattle.judge.proofs.Absent.{lacks_subvolumes, lacks_children, children_none}
use Rattle.judge.proofs.known.Known.judge_children.Goals as goal

pub returns-else-self-clause-reports : goal.returns-else-self-clause-reports
returns-else-self-clause-reports c =
    let p = c.args.self in
    reports_nil (children_none _ (lacks_subvolumes _ p.all (both_false _ _ c.if-self.false).0) (lacks_children _ p.all (both_false p.present.subvolumes _ c.if-self.false).1))
