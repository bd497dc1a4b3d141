-- Each key that was passed gave its findings.
use Rattle.std.proofs.Common.{◌+◌, ◌*◌, ◌≤◌}
use Rattle.findings.specs.Findings.{each}
use Rattle.pairs.specs.Pairs.{pairs_of}
use Rattle.book.specs.Book.{book_of}
use Rattle.walk.proofs.Visits.{Visited}
use Rattle.deletions.specs.Steps.{set_findings}
use Rattle.deletions.proofs.show_snapshots.Given as goal

abbrev pub invariant-loop-key : goal.invariant-loop-key
invariant-loop-key l =
    let of = set_findings (pairs_of l.fn.sets.words.now l.fn.sets.count) in
    record {
      visited : Visited of (each (λ _ k. of k) 0 (book_of l.fn.book.bytes.now).keys) l.key-iterator l.fn.report l.report;
      few : l.report.found + l.key-iterator.left * 3 ≤ l.fn.report.found + l.fn.book.header.keys * 3;
    }
