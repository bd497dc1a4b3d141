-- The gaps that were passed gave their findings.
use Rattle.std.proofs.Common.{◌+◌, ◌*◌, ◌≤◌, drop}
use Rattle.pairs.specs.Pairs.{pairs_of}
use Rattle.book.specs.Maps.{lower_bound}
use Rattle.book.specs.Book.{book_of}
use Rattle.walk.proofs.Passed.{Passed}
use Rattle.buckets.specs.FreeSpace.{gaps}
use Rattle.buckets.specs.Steps.{gaps_findings}
use Rattle.buckets.proofs.show_gaps.Given as goal

abbrev pub invariant-loop-i : goal.invariant-loop-i
invariant-loop-i l =
    let b = l.fn.book in
    let alloc = (book_of b.bytes.now).alloc in
    let xs = pairs_of l.fn.pairs.words.now l.fn.pairs.count in
    record {
      first : b.header.first_bucket ≤ l.from;
      few : l.report.found ≤ l.fn.report.found + l.i + 2 * lower_bound l.from alloc;
      passed : Passed (gaps_findings alloc (gaps b.header.first_bucket xs b.header.buckets)) (gaps_findings alloc (gaps l.from (drop l.i xs) b.header.buckets)) l.fn.report l.report;
      near : l.near ≤ b.header.alloc;
    }
