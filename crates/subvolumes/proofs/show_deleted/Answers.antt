-- Group after group.
use Rattle.std.proofs.Common.{arith}
use Rattle.findings.proofs.Reports.{reports_more}
use Rattle.book.proofs.Walk.{few_keys}
use Rattle.subvolumes.proofs.Groups.{bound_from}
use Rattle.subvolumes.proofs.show_deleted.Goals as goal

pub show_group-next-requires-clause-group : goal.show_group-next-requires-clause-group
show_group-next-requires-clause-group c =
    let p = c.args.states.now.pairs in
    (bound_from _ _ _ p.wide p.sorted c.lower_bound-from.ensures, omega (arith, c.requires))

pub show_group-requires-clause-found : goal.show_group-requires-clause-found
show_group-requires-clause-found c =
    let st = c.args.states.now in
    omega (arith, c.requires, c.show_group-next.ensures.few, st.few, few_keys st.book.opened)

pub returns-clause-reports : goal.returns-clause-reports
returns-clause-reports c = reports_more c.show_group-next.ensures.reports c.show_group.ensures.reports
