-- `buckets::in_use` meets its contract, by the data type.
use Rattle.buckets.specs.Steps.{in_use_of}
use borrow.Author.Rules.{rules}
use Rattle.buckets.proofs.in_use.Statement.{statement}
use Rattle.buckets.proofs.in_use.Tie as tie

returns : tie.Need-returns-in-Some
unfolding in_use_of
returns c = rw c.in-Some.is

returns_2 : tie.Need-returns-in-None
unfolding in_use_of
returns_2 c = rw c.in-None.is

pub in_use_spec : {M : Type 1} → statement M
in_use_spec =
    tie.close
    (tie.spec
    (λ c. search rules)
    (λ c. search rules)
    returns
    returns_2)
