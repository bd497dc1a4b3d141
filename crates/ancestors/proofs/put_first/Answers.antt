-- One place more.
use Rattle.std.proofs.Common.{◌≡◌, ◌∷◌, add-one, ◌∙◌, arith}
use Rattle.ancestors.proofs.Shift.{filled_more, filled_rest, filled_take, filled_length}
use Rattle.ancestors.proofs.put_first.Goals as goal

pub loop-i-preserved : goal.loop-i-preserved
loop-i-preserved c =
    let a = c.args in
    let l = c.loop-i in
    let full = c.requires.1 in (
      rw (l.invariant.0, l.invariant.1) (filled_more (a.id ∷ a.ids.now) a.ids.now l.i (omega arith) (omega arith)),
      rw (l.invariant.0, add-one l.i) (filled_rest (a.id ∷ a.ids.now) a.ids.now l.i l.i (omega arith) (omega arith)),
    )

pub returns : goal.returns
returns c =
    let a = c.args in
    let l = c.loop-i in
    let full = c.requires.1 in
    let all : a.end ≡ l.i = omega arith in
    let xs = a.id ∷ a.ids.now in
    (rw (all, l.invariant.0) (filled_take xs a.ids.now l.i (omega arith)), rw l.invariant.0 (filled_length xs a.ids.now l.i (omega arith) (omega arith) ∙ full))
