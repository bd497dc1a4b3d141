-- A turn tests four entries.
use mathlib.Core.Path.{sym, ◌∙◌}
use native.Mathlib.Omega.{arith}
use Rattle.book.proofs.Tables.{word_be}
use Rattle.scan.proofs.Rise.{rise_fours, rise_left}
use Rattle.scan.proofs.words_rise.Goals as goal

pub loop-init : goal.loop-init
loop-init c = record { place = omega arith; same = rise_left _ _ (omega arith); above = word_be _ (λ j. (c.type_inv.book j).fits) _ c.be32-first.ensures }

pub returns-then-not-four_rise : goal.returns-then-not-four_rise
returns-then-not-four_rise c =
    sym (c.loop.invariant.same ∙ rise_fours _ _ _ (omega arith) ∙ rw (← c.four_rise.ensures, c.if-not-four_rise.true))

pub loop-preserved : goal.loop-preserved
loop-preserved c = record {
  place = omega (arith, c.loop.invariant.place);
  same = c.loop.invariant.same ∙ rise_fours _ _ _ (omega arith) ∙ rw (← c.four_rise.ensures, c.if-not-four_rise.false) (rise_left _ _ (omega arith));
  above = word_be _ (λ j. (c.type_inv.book j).fits) _ c.be32-first-in-loop.ensures;
}

pub returns : goal.returns
returns c = c.each_rise.ensures ∙ sym (c.loop.invariant.same ∙ rise_left _ _ (omega (arith, c.loop-test.false)))
