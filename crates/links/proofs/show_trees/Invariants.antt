-- The pairs that were passed are reported.
use Rattle.std.proofs.Common.{◌+◌, ◌*◌, ◌≤◌, drop, List, ◌++◌, ◌≡◌}
use Rattle.findings.specs.Findings.{Finding, each}
use Rattle.findings.specs.Reports.{Reports}
use Rattle.pairs.specs.Pairs.{pairs_of}
use Rattle.book.specs.Book.{book_of}
use Rattle.maps.specs.Places.{last_places}
use Rattle.links.specs.SnapshotLinks.{tree_findings}
use Rattle.links.specs.Steps.{tree_at}
use Rattle.walk.proofs.Passed.{Passed}
use Rattle.links.proofs.show_trees.Given as goal

abbrev pub invariant-loop-i : goal.invariant-loop-i
invariant-loop-i l = record {
  passed : Passed (each (λ _ e. tree_findings (book_of l.fn.links.book.bytes.now) (tree_at l.fn.links.book.bytes.now e)) 0 (last_places 0 (pairs_of l.fn.links.pairs.words.now l.fn.links.pairs.count)))
      (each (λ _ e. tree_findings (book_of l.fn.links.book.bytes.now) (tree_at l.fn.links.book.bytes.now e)) 0 (last_places 0 (drop l.i (pairs_of l.fn.links.pairs.words.now l.fn.links.pairs.count))))
      l.fn.report l.report;
  few : l.report.found ≤ l.fn.report.found + l.i * 2;
}
