-- The entries from the last to the first.
use Rattle.std.proofs.Common.{◌∙◌, ap, arith}
use Rattle.buckets.specs.declared.Used.{Used}
use Rattle.buckets.specs.Steps.{used_from}
use Rattle.buckets.proofs.Runs.{used_turn}
use Rattle.buckets.proofs.Marks.{used_few}
use Rattle.buckets.proofs.used_down.Goals as goal

pub with_entry-used-requires : goal.with_entry-used-requires
with_entry-used-requires c =
    let l = c.loop-i in
    let a = c.args in
    omega (arith, ap (λ (u : Used). u.count) l.invariant.2, used_few a.book.now a.start a.count l.i)

pub loop-i-preserved : goal.loop-i-preserved
loop-i-preserved c =
    let a = c.args in
    (omega arith, omega arith, used_turn a.book.now 0 a.start a.count (omega (arith, c.loop-i-test.true)) c.loop-i.invariant.1 c.alloc_entry-e.ensures c.loop-i.invariant.2 c.with_entry-used.ensures.used)

pub returns : goal.returns
returns c = let a = c.args in c.loop-i.invariant.2 ∙ ap (used_from a.book.now a.start a.count) (omega arith)
