-- Where it is one.
use Rattle.std.proofs.Common.{◌∙◌, sym, ap, arith}
use Rattle.findings.specs.Findings.{only}
use Rattle.findings.proofs.Reports.{reports_as, reports_nil}
use Rattle.parents.specs.Sources.{reach_of}
use Rattle.links.proofs.Trees.{ready, ready_source}
use Rattle.links.proofs.show_snapshot.Goals as goal

pub returns-then-not-holds-clause-reports : goal.returns-then-not-holds-clause-reports
unfolding only
returns-then-not-holds-clause-reports c = let e = sym c.holds.ensures.holds ∙ c.if-not-holds.true in reports_nil (rw e)

pub line_beside-next-requires : goal.line_beside-next-requires
line_beside-next-requires c =
    let from = c.source_of-source.ensures in
    (ready_source (ready c.args.links.now) from, c.requires.lined_2.0, omega (arith, c.requires.lined_2.1, ap reach_of from))

pub show_links-requires : goal.show_links-requires
show_links-requires c =
    let next = c.line_beside-next.ensures in
    record {
      ready = (c.holds.ensures.long (c.if-not-holds.false), omega (arith, c.requires.few));
      lined = (next.lined, next.same.0 ∙ c.id.ensures);
    }

pub returns-clause-reports : goal.returns-clause-reports
unfolding only
returns-clause-reports c = let e = sym c.holds.ensures.holds ∙ c.if-not-holds.false in reports_as (rw e) c.show_links.ensures.reports

pub returns-clause-lined : goal.returns-clause-lined
returns-clause-lined c =
    let next = c.line_beside-next.ensures in
    (next.lined, omega (arith, next.same.1, ap reach_of c.source_of-source.ensures))
