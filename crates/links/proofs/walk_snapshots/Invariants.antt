-- The keys that were passed are reported, and the line is that of a snapshot.
use Rattle.std.proofs.Common.{◌≡◌, ◌+◌, ◌*◌, ◌≤◌}
use Rattle.findings.specs.Findings.{only, each}
use Rattle.book.specs.Book.{book_of}
use Rattle.book.specs.KeyMaps.{parents_of}
use Rattle.book.specs.Words.{holds}
use Rattle.parents.specs.Sources.{reach_of}
use Rattle.ancestors.specs.Lines.{Lined}
use Rattle.walk.proofs.Visits.{Visited}
use Rattle.links.specs.SnapshotLinks.{link_findings}
use Rattle.links.specs.Steps.{source_of}
use Rattle.links.proofs.walk_snapshots.Given as goal

abbrev pub invariant-loop-key : goal.invariant-loop-key
invariant-loop-key l = record {
  visited : Visited (λ k. only (holds 9 22 40 k) (link_findings (book_of l.fn.links.book.bytes.now) k))
      (each (λ _ k. only (holds 9 22 40 k) (link_findings (book_of l.fn.links.book.bytes.now) k)) 0 (book_of l.fn.links.book.bytes.now).keys) l.key-iterator l.fn.report l.report;
  few : l.report.found + l.key-iterator.left * 6 ≤ l.fn.report.found + l.fn.links.book.header.keys * 6;
  lined : Lined (parents_of (book_of l.fn.links.book.bytes.now)) l.ids l.line;
  near : l.line.near ≤ reach_of (source_of l.fn.links.book.header l.fn.links.book.places l.fn.links.pairs.count);
}
