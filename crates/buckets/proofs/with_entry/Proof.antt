-- `buckets::with_entry` meets its contract, by the test.
use mathlib.Core.Path.{sym, ◌∙◌}
use Rattle.buckets.specs.Steps.{used_with}
use borrow.Author.Rules.{rules}
use native.Mathlib.Omega.{arith}
use Rattle.buckets.proofs.with_entry.Statement.{statement}
use Rattle.buckets.proofs.with_entry.Tie as tie

returns : tie.Need-returns-then-in_use
unfolding used_with
returns c = (rw (sym c.in_use.ensures ∙ c.if-in_use.true), omega arith)

returns_2 : tie.Need-returns
unfolding used_with
returns_2 c = (rw (sym c.in_use.ensures ∙ c.if-in_use.false), omega arith)

pub with_entry_spec : {M : Type 1} → statement M
with_entry_spec =
    tie.close
    (tie.spec
    (λ c κs. search rules)
    (λ c. search rules)
    returns
    returns_2)
