-- By the test of its front.
use Rattle.std.proofs.Common.{sym, ap, ◌∙◌, ℕ, List, ◌++◌, append-nil, arith}
use Rattle.findings.specs.Findings.{only}
use Rattle.findings.proofs.Reports.{reports_as, reports_nil}
use Rattle.pairs.specs.Pairs.{pairs_of}
use Rattle.book.specs.Book.{book_of}
use Rattle.book.proofs.Walk.{parts}
use Rattle.book.specs.Turns.{held}
use Rattle.buckets.proofs.Runs.{run_pair_lem, no_pair}
use Rattle.buckets.proofs.take_run.Goals as goal

pub returns-then-not-is-clause-reports : goal.returns-then-not-is-clause-reports
unfolding only
returns-then-not-is-clause-reports c = reports_nil (rw (sym c.is.ensures ∙ c.if-not-is.true))

pub returns-then-not-is-clause-put : goal.returns-then-not-is-clause-put
returns-then-not-is-clause-put c =
    let a = c.args in
    rw (no_pair (book_of a.runs.now.book.bytes.now) a.key.at (held a.key) (sym c.is.ensures ∙ c.if-not-is.true), append-nil (pairs_of a.work.now a.t.put))

pub returns-clause-reports : goal.returns-clause-reports
unfolding only
returns-clause-reports c = reports_as (rw (sym c.is.ensures ∙ c.if-not-is.false)) c.show_run-near.ensures.reports

pub returns-clause-put : goal.returns-clause-put
returns-clause-put c =
    let a = c.args in
    let b = a.runs.now.book in
    let pair = run_pair_lem b.bytes.now (parts b.opened).header a.key.book.now a.key.at c.head.ensures (sym c.is.ensures ∙ c.if-not-is.false) in
    c.put_run-put.ensures.put ∙ ap (λ (l : List ℕ). pairs_of a.work.now a.t.put ++ l) pair
