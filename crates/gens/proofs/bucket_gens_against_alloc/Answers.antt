-- What the keys give, then what the pairs of the keys, sorted, leave uncovered.
use Rattle.std.proofs.Common.{◌∙◌, ap}
use Rattle.findings.proofs.Reports.{reports_as, reports_more}
use Rattle.pairs.specs.Pairs.{sort}
use Rattle.pairs.proofs.Order.{sorted_by}
use Rattle.gens.proofs.Covers.{uncovered_all}
use Rattle.gens.proofs.bucket_gens_against_alloc.Goals as goal

pub new-covers-requires-clause-sorted : goal.new-covers-requires-clause-sorted
new-covers-requires-clause-sorted c = sorted_by _ _ c.sort_pairs.ensures.n_after

pub returns-clause-reports : goal.returns-clause-reports
returns-clause-reports c =
    let e = c.new-covers.ensures in
    let sorted = c.sort_pairs.ensures.n_after ∙ ap sort c.take_keys-count.ensures.put in
    reports_as (uncovered_all c.args.book.opened (rw (e.0, e.1) sorted)) (reports_more c.take_keys-count.ensures.reports c.show_table.ensures.reports)
