-- `buckets::alloc_range` meets its contract: a table without entries has none in any range.
use native.Mathlib.Nat.{add-zero}
use Rattle.book.specs.Maps.{lower_bound}
use Rattle.book.specs.Book.{table_from}
use Rattle.buckets.specs.Steps.{range_of}
use borrow.Author.Rules.{rules}
use Rattle.buckets.proofs.alloc_range.Statement.{statement}
use Rattle.buckets.proofs.alloc_range.Tie as tie

returns : tie.Need-returns-then-count-eq0
unfolding range_of table_from lower_bound
returns c = rw (c.if-count-eq0.true, add-zero c.args.start)

pub alloc_range_spec : {M : Type 1} → statement M
alloc_range_spec =
    tie.close
    (tie.spec
    returns
    (λ c κs. search rules)
    (λ c. search rules))
