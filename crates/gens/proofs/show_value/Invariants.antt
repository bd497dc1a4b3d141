-- The bytes that were passed are reported, and the place is that of the next bucket.
use Rattle.std.proofs.Common.{◌+◌, ◌≤◌, take, drop}
use Rattle.search.specs.Bound.{LowerBound}
use Rattle.findings.specs.Findings.{each}
use Rattle.book.specs.Book.{gens_table, book_of}
use Rattle.book.specs.Walk.{first_at}
use Rattle.walk.proofs.Passed.{Passed}
use Rattle.gens.specs.BucketGensAgainstAlloc.{gen_at}
use Rattle.gens.proofs.show_value.Given as goal

abbrev pub invariant-loop-i : goal.invariant-loop-i
invariant-loop-i l =
    let b = l.fn.book in
    let of = gen_at (book_of b.bytes.now).gens l.fn.offset in
    let bytes = take 256 l.fn.value in
    record {
      place : LowerBound (first_at gens_table b.bytes.now b.places.gens) b.header.gens (l.base + l.i) l.at;
      passed : Passed (each of 0 bytes) (each of l.i (drop l.i bytes)) l.fn.report l.report;
      few : l.report.found ≤ l.fn.report.found + l.i;
    }
