-- The entries of the range are those of the gap.
use Rattle.std.specs.Prelude.{Option}
use Rattle.std.proofs.Common.{ℕ, List, sym, ap, arith}
use native.Mathlib.Nat.{le_of_lt}
use borrow.Author.Tests.{lt-ltb}
use Rattle.findings.specs.Findings.{only}
use Rattle.findings.proofs.Reports.{reports_as}
use Rattle.book.proofs.Walk.{parts}
use Rattle.buckets.specs.FreeSpace.{gap_findings}
use Rattle.buckets.specs.Steps.{gap_of}
use Rattle.buckets.proofs.Ranges.{range_entries, range_inside, range_below, range_count, range_few}
use Rattle.buckets.proofs.show_hole.Goals as goal

pub alloc_range-range-requires : goal.alloc_range-range-requires
alloc_range-range-requires c =
    let o = parts c.args.book.now.opened in
    (o.alloc_rise, o.small, le_of_lt c.requires.1, c.requires.2)

pub show_entries-requires : goal.show_entries-requires
show_entries-requires c =
    let o = c.args.book.now.opened in
    let order = le_of_lt c.requires.1 in
    let range = c.alloc_range-range.ensures in
    ((parts o).small, range_inside o order range, range_below o order range, c.requires.0)

pub returns-clause-reports : goal.returns-clause-reports
unfolding gap_of only
returns-clause-reports c =
    let a = c.args in
    let order = le_of_lt c.requires.1 in
    let same = ap (λ (xs : List (ℕ × Option ℕ)). gap_findings a.from xs a.to) (sym (range_entries a.book.now.opened order c.alloc_range-range.ensures)) in
    reports_as (rw (lt-ltb a.from a.to c.requires.1) same) c.show_entries.ensures.reports

pub returns-clause-few : goal.returns-clause-few
returns-clause-few c =
    let o = c.args.book.now.opened in
    let order = le_of_lt c.requires.1 in
    let range = c.alloc_range-range.ensures in
    (omega (arith, c.show_entries.ensures.few, range_count o order range), omega (arith, range_few o order range))
