-- The header stops it, or it hands on to the parts.
use mathlib.Core.Path.{refl, sym, ◌∙◌}
use Rattle.std.proofs.lemmas.Result.{err_from_is_err_and}
use Rattle.scan.proofs.Laws.{stops, goes_on}
use Rattle.scan.proofs.content_verdict.Goals as goal

pub returns-in_err-header_verdict : goal.returns-in_err-header_verdict
returns-in_err-header_verdict c =
    let p = err_from_is_err_and c.from_residual.result c.from_residual.ensures.1 in
    rw (p.1, p.2) (sym (stops _ (sym c.header_verdict.ensures ∙ c.in_err-header_verdict.was) refl))

pub returns : goal.returns
returns c = sym (goes_on _ (sym c.header_verdict.ensures) c.in_ok-header_verdict.was ∙ sym c.parts_verdict.ensures)
