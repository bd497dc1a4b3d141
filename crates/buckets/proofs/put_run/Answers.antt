-- By the test.
use Rattle.std.proofs.Common.{◌∙◌, sym, ap, List, ℕ, [], ◌++◌, append-nil, arith}
use Rattle.pairs.specs.Pairs.{pairs_of}
use Rattle.book.specs.Book.{bkey}
use Rattle.buckets.proofs.Runs.{held_none, held_one, run_size}
use Rattle.buckets.proofs.put_run.Goals as goal

pub returns-then-no_run-clause-put : goal.returns-then-no_run-clause-put
returns-then-no_run-clause-put c =
    let a = c.args in
    rw (held_none a.h (bkey a.k []) (sym c.no_run.ensures ∙ c.if-no_run.true), append-nil (pairs_of a.work.now a.n))

pub overflow_sub-end : goal.overflow_sub-end
overflow_sub-end c = omega (arith, c.run_end-end.ensures, run_size _ _ (sym c.no_run.ensures ∙ c.if-no_run.false))

pub returns-clause-put : goal.returns-clause-put
returns-clause-put c =
    let a = c.args in
    let one = held_one a.h (bkey a.k []) (sym c.no_run.ensures ∙ c.if-no_run.false) c.run_end-end.ensures c.max-start.ensures in
    c.put_pair.ensures.n_after ∙ ap (λ (l : List ℕ). pairs_of a.work.now a.n ++ l) one
