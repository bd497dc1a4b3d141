-- The marks from the last to the first.
use Rattle.std.proofs.Common.{◌≡◌, ℕ, ◌+◌, ◌-◌, ◌*◌, ◌∙◌, sym, ap, arith}
use Prim.Native.Nat.{min}
use Rattle.buckets.specs.Steps.{used_from}
use Rattle.buckets.proofs.Marks.{used_end, marks_none, marks_all, marks_turn}
use Rattle.buckets.proofs.put_marks.Goals as goal

pub loop-k-init : goal.loop-k-init
loop-k-init c =
    let a = c.args in
    (omega arith, c.requires.3, used_end a.book.now a.start a.count (min (257 * 256) a.count) (omega arith), marks_none a.book.now a.start a.count _ 257 (omega arith))

pub used_down-u-requires : goal.used_down-u-requires
used_down-u-requires c =
    let a = c.args in
    let same : c.loop-k.k ≡ c.loop-k.k - 1 + 1 = omega (arith, c.loop-k-test.true) in
    let to = ap (λ (k : ℕ). min (k * 256) a.count) same ∙ sym c.min-to.ensures in
    (omega arith, omega arith, omega (arith, c.min-from.ensures, c.min-to.ensures), omega (arith, c.min-to.ensures), c.loop-k.invariant.2 ∙ ap (used_from a.book.now a.start a.count) to)

pub loop-k-preserved : goal.loop-k-preserved
loop-k-preserved c =
    let a = c.args in
    let u = c.used_down-u.ensures ∙ ap (used_from a.book.now a.start a.count) c.min-from.ensures in (
      omega arith,
      omega (arith, c.put_mark.auto.marks, c.loop-k.invariant.1),
      u,
      marks_turn a.book.now a.start a.count c.loop-k.marks (c.loop-k.k - 1) c.loop-k.k (omega arith) u c.put_mark.ensures (omega arith) c.loop-k.invariant.3,
    )

pub returns : goal.returns
returns c = marks_all _ _ _ _ _ c.loop-k.invariant.3 (omega arith)
