-- The keys that were passed gave their findings and their pairs.
use Rattle.std.proofs.Common.{◌≡◌, ◌+◌, ◌≤◌, length}
use Rattle.findings.specs.Findings.{only, each}
use Rattle.book.specs.Book.{book_of}
use Rattle.walk.specs.Keys.{gather}
use Rattle.walk.proofs.Puts.{Put}
use Rattle.walk.proofs.Visits.{Visited}
use Rattle.buckets.specs.FreeSpace.{is_run, run_findings}
use Rattle.buckets.specs.Steps.{run_pair}
use Rattle.buckets.proofs.take_runs.Given as goal

abbrev pub invariant-loop-key : goal.invariant-loop-key
invariant-loop-key l =
    let b = l.fn.runs.book in
    let book = book_of b.bytes.now in
    record {
      visited : Visited (λ k. only (is_run k) (run_findings book k)) (each (λ _ k. only (is_run k) (run_findings book k)) 0 book.keys) l.key-iterator l.fn.report l.report;
      found : l.report.found + l.key-iterator.left ≤ l.fn.report.found + b.header.keys;
      put : Put (run_pair book) (gather (run_pair book) b.bytes.now b.header.keys b.places.keys) l.key-iterator l.work l.t.put;
      few : l.t.put + l.key-iterator.left ≤ b.header.keys;
      near : l.t.near ≤ b.header.alloc;
    }
