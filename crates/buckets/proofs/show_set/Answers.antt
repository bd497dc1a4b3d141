-- By the buckets in use.
use Rattle.std.proofs.Common.{arith}
use lib.Dec.{ltb}
use Rattle.findings.proofs.Reports.{reports_as}
use Rattle.book.proofs.Walk.{parts}
use Rattle.buckets.proofs.Ranges.{range_numbered, range_few, range_inside}
use Rattle.buckets.proofs.Runs.{set_is, one_at_most}
use Rattle.buckets.proofs.show_set.Goals as goal

pub alloc_range-range-requires : goal.alloc_range-range-requires
alloc_range-range-requires c = let o = parts c.args.runs.book.opened in (o.alloc_rise, o.small, c.requires.0, c.requires.2)

pub used_in-used-requires : goal.used_in-used-requires
used_in-used-requires c =
    let b = c.args.runs.book in
    let o = parts b.opened in
    (o.small, o.alloc_rise.inside, omega arith, c.args.runs.marked, range_few b.opened c.requires.0 c.alloc_range-range.ensures)

pub overflow_add-used : goal.overflow_add-used
overflow_add-used c =
    let b = c.args.runs.book in
    omega (
      arith,
      c.used_in-used.ensures.few,
      c.choose-more.ensures,
      one_at_most (ltb c.args.start b.header.first_bucket),
      range_inside b.opened c.requires.0 c.alloc_range-range.ensures,
      (parts b.opened).small,
    )

pub returns-clause-reports : goal.returns-clause-reports
returns-clause-reports c =
    let a = c.args in
    let b = a.runs.book in
    let set = set_is b.header.first_bucket a.start _ c.used_in-used.ensures.used c.choose-named.ensures c.choose-more.ensures in
    rw (range_numbered b.opened c.requires.0 c.alloc_range-range.ensures) (reports_as set c.emit_if.ensures.reports)

pub returns-clause-few : goal.returns-clause-few
returns-clause-few c = (c.emit_if.ensures.few, omega (arith, range_few c.args.runs.book.opened c.requires.0 c.alloc_range-range.ensures))
