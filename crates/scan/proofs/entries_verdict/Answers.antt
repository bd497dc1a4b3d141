-- A turn checks an entry.
use Prim.Native.Nat.{ℕ, ◌+◌, ◌-◌}
use mathlib.Core.Path.{◌≡◌, refl, sym, ap, ◌∙◌}
use native.Mathlib.Omega.{arith}
use Rattle.std.proofs.lemmas.Result.{err_from_is_err_and}
use Rattle.book.specs.Book.{entry_at}
use Rattle.book.proofs.Laws.{entry_fits}
use Rattle.scan.proofs.Laws.{stops, goes_on, table_none, table_step, table_left, refused, passed}
use Rattle.scan.proofs.entries_verdict.Goals as goal

pub returns-in_err-previous : goal.returns-in_err-previous
returns-in_err-previous c =
    let p = err_from_is_err_and c.from_residual.result c.from_residual.ensures.1 in
    let e = refused _ _ (sym c.check_entry.ensures ∙ c.in_err-previous.was) in
    rw (p.1, p.2) (sym (c.loop.invariant.same ∙ table_step _ _ _ _ _ (omega arith) ∙ stops _ e refl))

pub loop-preserved : goal.loop-preserved
loop-preserved c =
    let a = c.args in
    let at = c.loop.at in
    let e = passed _ _ (sym c.check_entry.ensures ∙ c.in_ok-previous.was) in
    let back : at ≡ at + a.t.size - a.t.size = omega arith in
    record {
      near = omega (arith, entry_fits _ _ _ _ e.0);
      same = c.loop.invariant.same ∙ table_step _ _ _ _ _ (omega arith) ∙ goes_on _ e.0 refl ∙ table_left _ _ _ _ (omega arith);
      before = λ h. sym e.1 ∙ ap (λ (p : ℕ). (entry_at a.t a.book.now p).first) back;
    }

pub returns : goal.returns
returns c = sym (c.loop.invariant.same ∙ table_none _ _ _ _ (omega (arith, c.loop-test.false)))
