-- Each part in turn stops the walk, or hands on to the next.
use mathlib.Core.Path.{refl, sym, ◌∙◌}
use Rattle.std.proofs.lemmas.Result.{err_from_is_err_and}
use Rattle.book.specs.Refusals.{parts_verdict}
use Rattle.scan.proofs.Laws.{stops, goes_on}
use Rattle.scan.proofs.parts_verdict.Goals as goal

pub returns-in_err-words_verdict : goal.returns-in_err-words_verdict
unfolding parts_verdict
returns-in_err-words_verdict c =
    let p = err_from_is_err_and c.from_residual.result c.from_residual.ensures.1 in
    rw (p.1, p.2) (sym (stops _ (sym c.words_verdict.ensures ∙ c.in_err-words_verdict.was) refl))

pub returns-in_err-words_verdict-2 : goal.returns-in_err-words_verdict-2
unfolding parts_verdict
returns-in_err-words_verdict-2 c =
    let p = err_from_is_err_and c.from_residual-in_err-words_verdict-2.result c.from_residual-in_err-words_verdict-2.ensures.1 in
    rw (p.1, p.2)
    (sym
    (goes_on _ (sym c.words_verdict.ensures) c.in_ok-words_verdict.was ∙
    stops _ (sym c.words_verdict-2.ensures ∙ c.in_err-words_verdict-2.was) refl))

pub returns-in_err-table_verdict : goal.returns-in_err-table_verdict
unfolding parts_verdict
returns-in_err-table_verdict c =
    let p = err_from_is_err_and c.from_residual-in_err-table_verdict.result c.from_residual-in_err-table_verdict.ensures.1 in
    rw (p.1, p.2)
    (sym
    (goes_on _ (sym c.words_verdict.ensures) c.in_ok-words_verdict.was ∙
    goes_on _ (sym c.words_verdict-2.ensures) c.in_ok-words_verdict-2.was ∙
    stops _ (sym c.table_verdict.ensures ∙ c.in_err-table_verdict.was) refl))

pub returns-in_err-table_verdict-2 : goal.returns-in_err-table_verdict-2
unfolding parts_verdict
returns-in_err-table_verdict-2 c =
    let p = err_from_is_err_and c.from_residual-in_err-table_verdict-2.result c.from_residual-in_err-table_verdict-2.ensures.1 in
    rw (p.1, p.2)
    (sym
    (goes_on _ (sym c.words_verdict.ensures) c.in_ok-words_verdict.was ∙
    goes_on _ (sym c.words_verdict-2.ensures) c.in_ok-words_verdict-2.was ∙
    goes_on _ (sym c.table_verdict.ensures) c.in_ok-table_verdict.was ∙
    stops _ (sym c.table_verdict-2.ensures ∙ c.in_err-table_verdict-2.was) refl))

pub returns : goal.returns
unfolding parts_verdict
returns c =
    sym
    (goes_on _ (sym c.words_verdict.ensures) c.in_ok-words_verdict.was ∙
    goes_on _ (sym c.words_verdict-2.ensures) c.in_ok-words_verdict-2.was ∙
    goes_on _ (sym c.table_verdict.ensures) c.in_ok-table_verdict.was ∙
    goes_on _ (sym c.table_verdict-2.ensures) c.in_ok-table_verdict-2.was ∙
    sym c.keys_verdict.ensures)
