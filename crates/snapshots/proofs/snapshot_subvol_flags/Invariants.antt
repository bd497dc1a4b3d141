-- The keys that were passed are reported.
use Rattle.std.proofs.Common.{◌≡◌, ◌+◌, ◌≤◌}
use Rattle.book.specs.Book.{book_of}
use Rattle.walk.proofs.Visits.{Visited}
use Rattle.snapshots.specs.SnapshotSubvolFlags.{flag_findings, snapshot_subvol_flags}
use Rattle.snapshots.proofs.snapshot_subvol_flags.Given as goal

abbrev pub invariant-loop-key : goal.invariant-loop-key
invariant-loop-key l = record {
  visited : Visited flag_findings (snapshot_subvol_flags (book_of l.fn.book.bytes.now)) l.key-iterator l.fn.report l.report;
  few : l.report.found + l.key-iterator.left ≤ l.fn.report.found + l.fn.book.header.keys;
}
