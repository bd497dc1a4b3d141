-- A turn decodes one byte more.
use Rattle.std.proofs.Common.{ℕ, ◌+◌, ◌*◌, List, set, refl, ap, ◌∙◌, arith, length-set}
use Rattle.lines.proofs.Lines.{decoded_none, decoded_next}
use Rattle.lines.proofs.decode.Goals as goal

pub loop-i-init : goal.loop-i-init
loop-i-init c = (refl, decoded_none _ _)

pub loop-i-preserved : goal.loop-i-preserved
loop-i-preserved c =
    let turn = c.loop-i in
    let high = c.digit-high in
    let low = c.digit-low in (
      simp length-set turn.invariant.0,
      ap (λ (l : List ℕ). set l turn.i (high.result * 16 + low.result)) turn.invariant.1
          ∙ decoded_next c.args.digits.now c.args.bytes.now turn.i (omega arith) high.ensures.value low.ensures.value,
    )
