-- `buckets::is_free` meets its contract, by the data type.
use Rattle.buckets.specs.Steps.{is_free_of}
use borrow.Author.Rules.{rules}
use Rattle.buckets.proofs.is_free.Statement.{statement}
use Rattle.buckets.proofs.is_free.Tie as tie

returns : tie.Need-returns-in-Some
unfolding is_free_of
returns c = rw c.in-Some.is

returns_2 : tie.Need-returns-in-None
unfolding is_free_of
returns_2 c = rw c.in-None.is

pub is_free_spec : {M : Type 1} → statement M
is_free_spec =
    tie.close
    (tie.spec
    (λ c. search rules)
    (λ c. search rules)
    returns
    returns_2)
