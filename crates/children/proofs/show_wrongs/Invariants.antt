-- The keys that were passed are reported.
use Rattle.std.proofs.Common.{◌+◌, ◌≤◌}
use Rattle.findings.specs.Findings.{only, each}
use Rattle.book.specs.Maps.{lookup}
use Rattle.book.specs.Book.{book_of}
use Rattle.walk.proofs.Visits.{Visited}
use Rattle.children.specs.SubvolumeChildren.{fs_parents, is_entry, wrong_entry}
use Rattle.children.proofs.show_wrongs.Given as goal

abbrev pub invariant-loop-key : goal.invariant-loop-key
invariant-loop-key l =
    let b = book_of l.fn.children.book.bytes.now in
    record {
      visited : Visited (λ k. only (is_entry k) (wrong_entry k (lookup k.offset (fs_parents b))))
          (each (λ _ k. only (is_entry k) (wrong_entry k (lookup k.offset (fs_parents b)))) 0 b.keys) l.key-iterator l.fn.report l.report;
      few : l.report.found + l.key-iterator.left ≤ l.fn.report.found + l.fn.children.book.header.keys;
    }
