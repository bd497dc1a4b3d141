-- Each key that was passed gave its findings and its pair.
use Rattle.std.proofs.Common.{◌+◌, ◌*◌, ◌≤◌}
use Rattle.findings.specs.Findings.{each}
use Rattle.book.specs.Book.{book_of}
use Rattle.walk.specs.Keys.{gather}
use Rattle.walk.proofs.Puts.{Put}
use Rattle.walk.proofs.Visits.{Visited}
use Rattle.gens.specs.Steps.{key_gens, cover_pair}
use Rattle.gens.proofs.take_keys.Given as goal

abbrev pub invariant-loop-key : goal.invariant-loop-key
invariant-loop-key l =
    let b = l.fn.book in
    let of = key_gens b.header.device (book_of b.bytes.now).gens in
    record {
      visited : Visited of (each (λ _ k. of k) 0 (book_of b.bytes.now).keys) l.key-iterator l.fn.report l.report;
      put : Put (cover_pair b.header.device) (gather (cover_pair b.header.device) b.bytes.now b.header.keys b.places.keys) l.key-iterator l.work l.n;
      few : l.report.found + l.key-iterator.left * 256 ≤ l.fn.report.found + b.header.keys * 256;
      pairs : l.n + l.key-iterator.left ≤ b.header.keys;
    }
