-- A turn compares two words.
use mathlib.Core.Path.{sym, ◌∙◌}
use native.Mathlib.Omega.{arith}
use Rattle.book.proofs.Tables.{word_be}
use Rattle.scan.proofs.Rise.{rise_none, rise_on, rise_stop, rise_left}
use Rattle.scan.proofs.each_rise.Goals as goal

pub returns-then-be32 : goal.returns-then-be32
returns-then-be32 c =
    let above = word_be _ (λ j. (c.type_inv.book j).fits) _ c.be32.ensures in
    let here = word_be _ (λ j. (c.type_inv.book j).fits) _ c.be32-in-loop.ensures in
    rise_stop _ _ _ (omega arith) (omega (arith, above, here)) ∙ sym c.loop.invariant.same

pub loop-preserved : goal.loop-preserved
loop-preserved c =
    let above = word_be _ (λ j. (c.type_inv.book j).fits) _ c.be32.ensures in
    let here = word_be _ (λ j. (c.type_inv.book j).fits) _ c.be32-in-loop.ensures in
    record {
      place = omega (arith, c.loop.invariant.place);
      same = c.loop.invariant.same ∙ rise_on _ _ _ (omega arith) (omega (arith, above, here)) ∙ rise_left _ _ (omega arith);
    }

pub returns : goal.returns
returns c = rise_none _ _ (omega (arith, c.loop-test.false)) ∙ sym c.loop.invariant.same
