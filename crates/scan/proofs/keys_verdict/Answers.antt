-- A turn checks a key.
use mathlib.Core.Path.{refl, sym, ◌∙◌}
use native.Mathlib.Omega.{arith}
use borrow.Author.Tests.{lt-ltb, le-ltb}
use Rattle.std.proofs.lemmas.Result.{err_from_is_err_and}
use Rattle.book.specs.Refusals.{refuse}
use Rattle.book.proofs.Laws.{key_fits}
use Rattle.book.proofs.Walk.{front_end}
use Rattle.scan.proofs.Laws.{stops, goes_on, keys_none, keys_step, keys_left, refused, passed}
use Rattle.scan.proofs.keys_verdict.Goals as goal

pub returns-in_err-front : goal.returns-in_err-front
returns-in_err-front c =
    let p = err_from_is_err_and c.from_residual.result c.from_residual.ensures.1 in
    let e = refused _ _ (sym c.read_key.ensures ∙ c.in_err-front.was) in
    rw (p.1, p.2) (sym (c.loop.invariant.same ∙ keys_step _ _ _ _ (omega arith) ∙ stops _ e refl))

pub overflow_add-at-in-loop : goal.overflow_add-at-in-loop
overflow_add-at-in-loop c =
    let e = passed _ _ (sym c.read_key.ensures ∙ c.in_ok-front.was) in
    omega (arith, front_end _ _ (sym e.1), key_fits _ _ _ e.0, c.requires)

pub loop-preserved : goal.loop-preserved
loop-preserved c =
    let e = passed _ _ (sym c.read_key.ensures ∙ c.in_ok-front.was) in
    let end = front_end _ _ (sym e.1) in
    record {
      near = omega (arith, end, key_fits _ _ _ e.0);
      same = c.loop.invariant.same ∙ keys_step _ _ _ _ (omega arith) ∙ goes_on _ e.0 refl ∙ keys_left _ _ (omega arith) (sym end);
    }

pub returns-then-at-book : goal.returns-then-at-book
unfolding refuse
returns-then-at-book c =
    sym (c.loop.invariant.same ∙ keys_none _ _ _ (omega (arith, c.loop-test.false)) ∙ simp (lt-ltb _ _ c.if-at-book.true, c.at.ensures))

pub returns : goal.returns
unfolding refuse
returns c = sym (c.loop.invariant.same ∙ keys_none _ _ _ (omega (arith, c.loop-test.false)) ∙ simp (le-ltb _ _ c.if-at-book.false))
