-- Each key that was passed gave its findings and its btree.
use Rattle.std.proofs.Common.{◌≡◌, ◌+◌, ◌*◌, ◌≤◌}
use Rattle.findings.specs.Findings.{each}
use Rattle.book.specs.Book.{keys_from, book_of}
use Rattle.walk.proofs.Passed.{Passed}
use Rattle.keys.specs.KeyFindings.{key_findings}
use Rattle.keys.specs.Present.{present_with, present_in}
use Rattle.keys.proofs.judge_keys.Given as goal

abbrev pub invariant-loop-index : goal.invariant-loop-index
invariant-loop-index l =
    let b = book_of l.fn.book.bytes.now in
    let it = l.index-iterator.iter in
    let left = keys_from it.book.now it.left it.at in
    record {
      passed : Passed (each (key_findings b) 0 b.keys) (each (key_findings b) l.index-iterator.count left) l.fn.report l.report;
      few : l.report.found + it.left * 15 ≤ l.fn.report.found + l.fn.book.header.keys * 15;
      counted : l.index-iterator.count + it.left ≤ l.fn.book.header.keys;
      present : present_in b.keys ≡ present_with l.present left;
    }
