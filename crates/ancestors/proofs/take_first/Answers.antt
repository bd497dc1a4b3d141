-- One place more.
use Rattle.std.proofs.Common.{◌≡◌, ◌∙◌, sym, ap, ℕ, ◌+◌, length, get_or, drop, length-drop, arith}
use lib.Seq.{get_or-drop}
use Rattle.ancestors.proofs.Shift.{filled_more, filled_rest, filled_take, filled_length}
use Rattle.ancestors.proofs.take_first.Goals as goal

pub loop-i-preserved : goal.loop-i-preserved
loop-i-preserved c =
    let l = c.loop-i in
    let xs = c.args.ids.now in
    let full = c.requires.1 in
    let rest : length (drop 1 xs) ≡ 1023 = omega (arith, length-drop 1 xs) in
    let turn : 1 + l.i ≡ l.i + 1 = omega arith in
    let next : get_or l.ids (l.i + 1) 0 ≡ get_or (drop 1 xs) l.i 0 =
    rw l.invariant (filled_rest (drop 1 xs) xs l.i (l.i + 1) (omega arith) (omega arith) ∙ sym (get_or-drop 1 xs l.i 0 ∙ ap (λ (j : ℕ). get_or xs j 0) turn)) in
    rw (next, l.invariant) (filled_more (drop 1 xs) xs l.i (omega arith) (omega arith))

pub returns : goal.returns
returns c =
    let a = c.args in
    let l = c.loop-i in
    let xs = a.ids.now in
    let full = c.requires.1 in
    let all : a.end ≡ l.i = omega arith in
    let rest : length (drop 1 xs) ≡ 1023 = omega (arith, length-drop 1 xs) in
    (rw (all, l.invariant) (filled_take (drop 1 xs) xs l.i (omega arith)), rw l.invariant (filled_length (drop 1 xs) xs l.i (omega arith) (omega arith) ∙ full))
