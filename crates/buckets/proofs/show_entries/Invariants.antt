-- The entries that were passed gave their findings.
use Rattle.std.proofs.Common.{◌+◌, ◌-◌, ◌*◌, ◌≤◌}
use Rattle.book.specs.Book.{alloc_from}
use Rattle.walk.proofs.Passed.{Passed}
use Rattle.buckets.specs.FreeSpace.{gap_findings}
use Rattle.buckets.specs.Steps.{Below}
use Rattle.buckets.proofs.show_entries.Given as goal

abbrev pub invariant-loop-i : goal.invariant-loop-i
invariant-loop-i l = record {
  passed : Passed (gap_findings l.from (alloc_from l.book l.count l.start) l.to) (gap_findings l.at (alloc_from l.book (l.count - l.i) (l.start + l.i * 10)) l.to) l.fn.report l.report;
  few : l.report.found ≤ l.fn.report.found + 2 * l.i;
  below : Below l.to (alloc_from l.book (l.count - l.i) (l.start + l.i * 10));
}
