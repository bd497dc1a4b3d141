-- The entries that were passed are reported, and whether the block at hand is covered is known.
use Rattle.std.proofs.Common.{◌≡◌, ◌+◌, ◌-◌, ◌*◌, ◌≤◌}
use Rattle.findings.specs.Findings.{each}
use Rattle.pairs.specs.Pairs.{pairs_of, pair, has}
use Rattle.book.specs.Book.{gens_from, book_of}
use Rattle.walk.proofs.Passed.{Passed}
use Rattle.gens.specs.Steps.{not_covered}
use Rattle.gens.proofs.show_table.Given as goal

abbrev pub invariant-loop-i : goal.invariant-loop-i
invariant-loop-i l =
    let b = l.fn.book in
    let xs = pairs_of l.fn.covers.words.now l.fn.covers.count in
    record {
      known : l.c.covered ≡ has (pair l.c.block 0) xs;
      passed : Passed (each (λ _ e. not_covered xs e.0 e.1) 0 (book_of b.bytes.now).gens)
          (each (λ _ e. not_covered xs e.0 e.1) 0 (gens_from b.bytes.now (b.header.gens - l.i) (b.places.gens + l.i * 9)))
          l.fn.report l.report;
      few : l.report.found ≤ l.fn.report.found + l.i;
    }
