-- Each answer as its number.
use mathlib.Core.Path.{sym, ◌∙◌}
use native.Mathlib.Omega.{arith}
use borrow.Author.Rules.{rules}
use Rattle.book.specs.Refusals.{parse}
use Rattle.dockwrench.specs.Answers.{ancestor_answer}
use Rattle.dockwrench.proofs.Laws.{ancestor_links, ancestor_bounds}
use Rattle.dockwrench.proofs.dockwrench_ancestor.Goals as goal

pub pack-requires : goal.pack-requires
pack-requires c =
    let e = rw c.in-Ok-Some.field-0-is at (sym c.ask_ancestor.ensures ∙ c.in-Ok-Some.is) in
    (omega arith, omega (arith, ancestor_links (parse c.args.book.now) c.args.id e), search rules)

pub pack-requires-in-Err : goal.pack-requires-in-Err
pack-requires-in-Err c =
    let b = ancestor_bounds c.args.book.now c.args.id (sym c.ask_ancestor.ensures ∙ c.in-Err.is) in
    (omega (arith, b.0), omega (arith, b.1), omega arith)

pub returns-in-Ok-Some : goal.returns-in-Ok-Some
unfolding ancestor_answer
returns-in-Ok-Some c =
    let e = rw c.in-Ok-Some.field-0-is at (sym c.ask_ancestor.ensures ∙ c.in-Ok-Some.is) in
    let p = c.pack.ensures in
    record { answer = rw e p.packed; apart = rw e p.apart }

pub returns-in-Ok-None : goal.returns-in-Ok-None
unfolding ancestor_answer
returns-in-Ok-None c =
    let e = rw c.in-Ok-None.field-0-is at (sym c.ask_ancestor.ensures ∙ c.in-Ok-None.is) in
    let p = c.pack-in-Ok-None.ensures in
    record { answer = rw e p.packed; apart = rw e p.apart }

pub returns-in-Err : goal.returns-in-Err
unfolding ancestor_answer
returns-in-Err c =
    let e = sym c.ask_ancestor.ensures ∙ c.in-Err.is in
    let p = c.pack-in-Err.ensures in
    record { answer = rw e p.packed; apart = rw e p.apart }
