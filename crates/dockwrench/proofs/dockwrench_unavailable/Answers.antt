-- Each answer as its number.
use mathlib.Core.Path.{sym, ◌∙◌}
use native.Mathlib.Omega.{arith}
use Rattle.dockwrench.specs.Answers.{availability_answer}
use Rattle.dockwrench.proofs.Laws.{available_bounds}
use Rattle.dockwrench.proofs.dockwrench_unavailable.Goals as goal

pub pack-requires-in-Err : goal.pack-requires-in-Err
pack-requires-in-Err c =
    let b = available_bounds c.args.book.now c.args.id (sym c.ask_available.ensures ∙ c.in-Err.is) in
    (omega (arith, b.0), omega (arith, b.1), omega arith)

pub returns-in-Ok-Unavailable : goal.returns-in-Ok-Unavailable
unfolding availability_answer
returns-in-Ok-Unavailable c =
    let e = rw c.in-Ok-Unavailable.field-0-is at (sym c.ask_available.ensures ∙ c.in-Ok-Unavailable.is) in
    let p = c.pack.ensures in
    record { answer = rw e p.packed; apart = rw e p.apart }

pub returns-in-Ok-Available : goal.returns-in-Ok-Available
unfolding availability_answer
returns-in-Ok-Available c =
    let e = rw c.in-Ok-Available.field-0-is at (sym c.ask_available.ensures ∙ c.in-Ok-Available.is) in
    let p = c.pack-in-Ok-Available.ensures in
    record { answer = rw e p.packed; apart = rw e p.apart }

pub returns-in-Err : goal.returns-in-Err
unfolding availability_answer
returns-in-Err c =
    let e = sym c.ask_available.ensures ∙ c.in-Err.is in
    let p = c.pack-in-Err.ensures in
    record { answer = rw e p.packed; apart = rw e p.apart }
