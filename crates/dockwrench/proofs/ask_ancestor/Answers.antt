-- By what `scan` answers.
use mathlib.Core.Path.{ap}
use Rattle.std.specs.Prelude.{Option, Result, Ok}
use Rattle.std.proofs.lemmas.Result.{err_from_is_err_and}
use Rattle.book.specs.declared.refusal.Refusal.{Refusal}
use Rattle.parents.specs.declared.Root.{Root}
use Rattle.dockwrench.specs.Answers.{ancestor_of}
use Rattle.dockwrench.proofs.Laws.{accepted_as}
use Rattle.dockwrench.proofs.ask_ancestor.Goals as goal

-- the answer over an accepted book
abbrev ok : Option Root → Result (Option Root) Refusal
ok o = Ok o

pub returns-in_err-scan : goal.returns-in_err-scan
unfolding ancestor_of
returns-in_err-scan c =
    let p = err_from_is_err_and c.from_residual.result c.from_residual.ensures.1 in
    rw (p.1, p.2, c.in_err-scan.ensures.refused)

pub returns : goal.returns
unfolding ancestor_of
returns c =
    let b = c.in_ok-scan.field-0 in
    rw (accepted_as b.opened c.in_ok-scan.ensures.same) (ap ok c.root_above.ensures)
