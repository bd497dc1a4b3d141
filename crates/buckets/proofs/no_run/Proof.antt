-- `buckets::no_run` meets its contract, by what its three tests answer, in whatever order they are tried.
use mathlib.Core.Bool.{or-true}
use mathlib.Core.List.{[]}
use Rattle.book.specs.Book.{bkey}
use Rattle.buckets.specs.FreeSpace.{no_run}
use Rattle.buckets.proofs.Runs.{by_tests}
use borrow.Author.Rules.{rules}
use Rattle.buckets.proofs.no_run.Statement.{statement}
use Rattle.buckets.proofs.no_run.Tie as tie

returns : tie.Need-returns
unfolding no_run
returns c =
    let a = c.args in
    rw c.run_end-end.ensures
    (by_tests a.h (bkey a.k [])
    (λ x y z. simp (or-true, x, y, z)) (λ x y z. simp (or-true, x, y, z)) (λ x y z. simp (or-true, x, y, z))
    (λ x y z. simp (or-true, x, y, z)) (λ x y z. simp (or-true, x, y, z)) (λ x y z. simp (or-true, x, y, z))
    (λ x y z. simp (or-true, x, y, z)) (λ x y z. simp (or-true, x, y, z)))

pub no_run_spec : {M : Type 1} → statement M
no_run_spec =
    tie.close
    (tie.spec
    (λ c κs. search rules)
    (λ c. search rules)
    returns)
