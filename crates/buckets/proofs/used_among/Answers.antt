-- The entries from the last to the first.
use Rattle.std.proofs.Common.{arith}
use Rattle.buckets.proofs.Runs.{used_none, used_turn, used_all}
use Rattle.buckets.proofs.used_among.Goals as goal

pub loop-i-init : goal.loop-i-init
loop-i-init c = (omega arith, used_none _ _ _ _)

pub loop-i-preserved : goal.loop-i-preserved
loop-i-preserved c =
    let a = c.args in
    let l = c.loop-i in (
      omega (arith, c.with_entry-u.ensures.few, l.invariant.0, c.loop-i-test.true),
      used_turn a.book.now a.none a.start a.count (omega (arith, c.loop-i-test.true)) (omega (arith, l.invariant.0)) c.alloc_entry-e.ensures l.invariant.1 c.with_entry-u.ensures.used,
    )

pub returns-clause-used : goal.returns-clause-used
returns-clause-used c = used_all _ _ _ _ (omega arith) c.loop-i.invariant.1
