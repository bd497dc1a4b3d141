-- By the test.
use Rattle.std.proofs.Common.{sym, ◌∙◌, arith}
use Rattle.findings.proofs.Reports.{reports_as}
use Rattle.book.proofs.Walk.{parts}
use Rattle.buckets.proofs.Runs.{run_size, run_none, run_set}
use Rattle.buckets.proofs.show_run.Goals as goal

pub returns-then-no_run-clause-reports : goal.returns-then-no_run-clause-reports
returns-then-no_run-clause-reports c =
    let b = c.args.runs.now.book in
    let key = c.args.key in
    reports_as (run_none b.bytes.now (parts b.opened).header key.book.now key.at c.head-head.ensures c.run_end-end.ensures (sym c.no_run.ensures ∙ c.if-no_run.true)) c.emit.ensures.reports

pub overflow_sub-end : goal.overflow_sub-end
overflow_sub-end c = omega (arith, c.run_end-end.ensures, run_size _ _ (sym c.no_run.ensures ∙ c.if-no_run.false))

pub returns-clause-reports : goal.returns-clause-reports
returns-clause-reports c =
    let b = c.args.runs.now.book in
    let key = c.args.key in
    reports_as (run_set b.bytes.now (parts b.opened).header key.book.now key.at c.head-head.ensures c.run_end-end.ensures (sym c.no_run.ensures ∙ c.if-no_run.false)) c.show_set.ensures.reports
