-- Pair after pair.
use Rattle.std.proofs.Common.{arith}
use Rattle.book.proofs.Walk.{few_keys}
use Rattle.maps.proofs.Last.{each_last, each_ended}
use Rattle.walk.proofs.Passed.{pass_first, pass_more, pass_last}
use Rattle.children.proofs.Children.{all_pairs, missing, missing_all}
use Rattle.children.proofs.show_missings.Goals as goal

pub loop-i-init : goal.loop-i-init
loop-i-init c = record { passed = pass_first; few = omega arith }

pub show_missing-requires : goal.show_missing-requires
show_missing-requires c =
    let a = c.args.children.now in
    (c.loop-i-test.true, omega (arith, c.requires, few_keys a.book.opened, a.few, c.loop-i.invariant.few))

pub loop-i-preserved : goal.loop-i-preserved
loop-i-preserved c =
    let a = c.args.children.now in
    let i = c.loop-i.invariant in
    record {
      passed = pass_more i.passed c.show_missing.ensures.reports
          (each_last a.pairs.words.now a.pairs.count c.loop-i.i c.loop-i-test.true a.pairs.wide 0 (missing a.book.bytes.now));
      few = omega (arith, i.few, c.show_missing.ensures.few);
    }

pub returns-clause-reports : goal.returns-clause-reports
returns-clause-reports c =
    let a = c.args.children.now in
    rw (missing_all a.book.opened (all_pairs a))
    (pass_last c.loop-i.invariant.passed (each_ended (missing a.book.bytes.now) a.pairs.words.now a.pairs.count 0 c.loop-i.i c.loop-i-test.false))
