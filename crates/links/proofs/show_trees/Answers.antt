-- Pair after pair.
use Rattle.std.proofs.Common.{arith, ◌∙◌}
use Rattle.findings.proofs.Reports.{reports_as}
use Rattle.book.proofs.Walk.{few_keys}
use Rattle.book.specs.Book.{book_of}
use Rattle.maps.proofs.Last.{each_last, each_ended}
use Rattle.links.specs.SnapshotLinks.{tree_findings}
use Rattle.links.specs.Steps.{tree_at}
use Rattle.walk.proofs.Passed.{pass_first, pass_more, pass_last}
use Rattle.links.proofs.Trees.{ready, trees_each}
use Rattle.links.proofs.show_trees.Goals as goal

pub loop-i-init : goal.loop-i-init
loop-i-init c = record { passed = pass_first; few = omega arith }

pub show_pair-requires : goal.show_pair-requires
show_pair-requires c = let l = c.args.links.now in (c.loop-i-test.true, omega (arith, few_keys l.book.opened, l.few, c.loop-i.invariant.few))

pub loop-i-preserved : goal.loop-i-preserved
loop-i-preserved c =
    let a = c.args.links.now in
    let s = a.book.bytes.now in
    let i = c.loop-i.invariant in
    record {
      passed = pass_more i.passed c.show_pair.ensures.reports
          (each_last a.pairs.words.now a.pairs.count c.loop-i.i c.loop-i-test.true a.pairs.wide 0 (λ e. tree_findings (book_of s) (tree_at s e)));
      few = omega (arith, i.few, c.show_pair.ensures.few);
    }

pub returns-clause-reports : goal.returns-clause-reports
returns-clause-reports c =
    let a = c.args.links.now in
    let s = a.book.bytes.now in
    rw (trees_each (ready a)) (pass_last c.loop-i.invariant.passed (each_ended (λ e. tree_findings (book_of s) (tree_at s e)) a.pairs.words.now a.pairs.count 0 c.loop-i.i c.loop-i-test.false))
