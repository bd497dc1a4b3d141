-- The pairs that were passed are reported.
use Rattle.std.proofs.Common.{◌+◌, ◌≤◌, drop}
use Rattle.findings.specs.Findings.{each}
use Rattle.pairs.specs.Pairs.{pairs_of}
use Rattle.maps.specs.Places.{last_places}
use Rattle.walk.proofs.Passed.{Passed}
use Rattle.children.proofs.Children.{missing}
use Rattle.children.proofs.show_missings.Given as goal

abbrev pub invariant-loop-i : goal.invariant-loop-i
invariant-loop-i l =
    let s = l.fn.children.book.bytes.now in
    let xs = pairs_of l.fn.children.pairs.words.now l.fn.children.pairs.count in
    record {
      passed : Passed (each (λ _ e. missing s e) 0 (last_places 0 xs)) (each (λ _ e. missing s e) 0 (last_places 0 (drop l.i xs))) l.fn.report l.report;
      few : l.report.found ≤ l.fn.report.found + l.i;
    }
