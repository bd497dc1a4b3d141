-- `scan::bad_entry` meets its contract: without types no rest is refused, and with them the entry is an alloc entry.
use mathlib.Core.Bool.{true}
use mathlib.Core.Path.{ap, ◌∙◌}
use borrow.Author.Tests.{not-true, not-false}
use Rattle.book.specs.Book.{entry_at}
use Rattle.book.specs.Refusals.{bad_rest}
use borrow.Author.Rules.{rules}
use native.Mathlib.Omega.{arith}
use Rattle.scan.proofs.bad_entry.Statement.{statement}
use Rattle.scan.proofs.bad_entry.Tie as tie

returns : tie.Need-returns-then-not-t
unfolding bad_rest
returns c = rw (not-true c.args.t.typed c.if-not-t.true)

take_requires : tie.Need-take-rest-requires
take_requires c κs = omega (arith, c.requires.0.typed (not-false _ c.if-not-t.false))

returns_2 : tie.Need-returns
unfolding entry_at
returns_2 c =
    let typed = not-false _ c.if-not-t.false in
    let form = c.requires.0.typed typed in
    c.bad_rest.ensures ∙ rw (typed, form.0, form.1) (ap (bad_rest true) c.take-rest.ensures.0)

pub bad_entry_spec : {M : Type 1} → statement M
bad_entry_spec =
    tie.close
    (tie.spec
    returns
    (λ c. search rules)
    (λ c. search rules)
    take_requires
    (λ c κs. search rules)
    returns_2)
