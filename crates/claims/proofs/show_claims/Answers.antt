-- Run after run.
use Rattle.std.proofs.Common.{arith}
use Rattle.walk.proofs.Passed.{pass_first, pass_more, pass_last}
use Rattle.claims.proofs.Counts.{run_findings, no_findings}
use Rattle.claims.proofs.show_claims.Goals as goal

pub loop-i-init : goal.loop-i-init
loop-i-init c = record { inside = omega arith; few = omega arith; passed = pass_first }

pub overflow_sub-size : goal.overflow_sub-size
overflow_sub-size c = omega (arith, c.run_end-end.ensures.past)

pub emit_if-requires : goal.emit_if-requires
emit_if-requires c = omega (arith, c.requires.0, c.requires.1, c.loop-i.invariant.few, c.loop-i.invariant.inside)

pub loop-i-smaller : goal.loop-i-smaller
loop-i-smaller c = omega (arith, c.run_end-end.ensures.past, c.run_end-end.ensures.inside)

pub loop-i-preserved : goal.loop-i-preserved
loop-i-preserved c =
    let p = c.args.pairs in
    let r = c.run_end-end.ensures in
    let i = c.loop-i.invariant in
    record {
      inside = r.inside;
      few = omega (arith, r.past, c.emit_if.ensures.few, i.few);
      passed = pass_more i.passed (rw c.first.ensures at c.emit_if.ensures.reports) (run_findings p.words.now p.count p.wide p.sorted r);
    }

pub returns-clause-reports : goal.returns-clause-reports
returns-clause-reports c = pass_last c.loop-i.invariant.passed (no_findings _ _ _ c.loop-i-test.false)
