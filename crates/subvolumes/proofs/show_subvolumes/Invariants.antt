-- Each key that was passed gave its findings.
use Rattle.std.proofs.Common.{◌+◌, ◌*◌, ◌≤◌}
use Rattle.findings.specs.Findings.{each}
use Rattle.pairs.specs.Pairs.{pairs_of}
use Rattle.book.specs.Book.{book_of}
use Rattle.walk.proofs.Visits.{Visited}
use Rattle.subvolumes.specs.Steps.{judged}
use Rattle.subvolumes.proofs.show_subvolumes.Given as goal

abbrev pub invariant-loop-key : goal.invariant-loop-key
invariant-loop-key l =
    let s = l.fn.states.book.bytes.now in
    let of = judged s (pairs_of l.fn.states.pairs.words.now l.fn.states.pairs.count) in
    record {
      visited : Visited of (each (λ _ k. of k) 0 (book_of s).keys) l.key-iterator l.fn.report l.report;
      few : l.report.found + l.key-iterator.left * 74899 ≤ l.fn.report.found + l.fn.states.book.header.keys * 74899;
    }
