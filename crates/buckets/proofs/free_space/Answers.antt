-- What the runs give, then what the gaps between their pairs give.
use Rattle.std.proofs.Common.{◌∙◌, ap, arith}
use Rattle.findings.proofs.Reports.{reports_as, reports_more}
use Rattle.pairs.specs.Pairs.{sort}
use Rattle.pairs.proofs.Order.{sorted_by}
use Rattle.book.proofs.Walk.{parts, few_keys}
use Rattle.buckets.proofs.Runs.{fair_sorted}
use Rattle.buckets.proofs.Gaps.{free_all}
use Rattle.buckets.proofs.free_space.Goals as goal

pub new-requires-clause-sorted : goal.new-requires-clause-sorted
new-requires-clause-sorted c = sorted_by _ _ c.sort_pairs.ensures.n_after

pub show_gaps-requires : goal.show_gaps-requires
show_gaps-requires c =
    let runs = c.all_runs-count.ensures in
    let e = c.new.ensures in
    let fair = fair_sorted c.args.book.bytes.now (parts c.args.book.opened).header _ _ (c.sort_pairs.ensures.n_after ∙ ap sort runs.put) in
    (omega (arith, e.1, runs.few.1), rw (e.0, e.1) fair, omega (arith, runs.few.0, few_keys c.args.book.opened, c.requires.found))

pub returns-clause-reports : goal.returns-clause-reports
returns-clause-reports c =
    let runs = c.all_runs-count.ensures in
    let e = c.new.ensures in
    let sorted = c.sort_pairs.ensures.n_after ∙ ap sort runs.put in
    reports_as (rw (e.0, e.1) (free_all c.args.book.opened sorted)) (reports_more runs.reports c.show_gaps.ensures.reports)
