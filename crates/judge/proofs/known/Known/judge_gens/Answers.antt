-- Without keys of the btree and entries of the table there is nothing to find.
use Rattle.findings.proofs.Reports.{reports_nil}
use Rattle.pairs.proofs.Order.{both_false}
use Rattle.judge.proofs.Laws.{no_gens}
use Rattle.judge.proofs.Absent.{lacks_gens, gens_none}
use Rattle.judge.proofs.known.Known.judge_gens.Goals as goal

pub returns-else-self-clause-reports : goal.returns-else-self-clause-reports
returns-else-self-clause-reports c =
    let p = c.args.self in
    reports_nil (gens_none _ (lacks_gens _ p.all (both_false _ _ c.if-self.false).0) (no_gens p.book.opened (both_false p.present.gens _ c.if-self.false).1))
