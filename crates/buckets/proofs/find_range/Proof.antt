-- `buckets::find_range` meets its contract: the range lies between the two bounds.
use Rattle.book.specs.Book.{alloc_from}
use Rattle.buckets.specs.Steps.{range_of}
use Rattle.buckets.proofs.Ranges.{bound_grows}
use borrow.Author.Rules.{rules}
use native.Mathlib.Omega.{arith}
use Rattle.buckets.proofs.find_range.Statement.{statement}
use Rattle.buckets.proofs.find_range.Tie as tie

returns : tie.Need-returns
unfolding range_of
returns c = rw (c.alloc_near-low.ensures.0, c.alloc_near-high.ensures.0)

pub find_range_spec : {M : Type 1} → statement M
find_range_spec =
    tie.close
    (tie.spec
    (λ c κs. search rules)
    (λ c κs. search rules)
    (λ c. omega (arith, c.alloc_near-low.ensures.1, c.requires.0.inside))
    (λ c. omega (arith, c.alloc_near-low.ensures.1, c.requires.0.inside))
    (λ c. let a = c.args in omega (arith, c.alloc_near-low.ensures.0, c.alloc_near-high.ensures.0, bound_grows c.requires.2 (alloc_from a.book.now a.count a.start)))
    returns)
