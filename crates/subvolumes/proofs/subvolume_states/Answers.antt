-- By the pairs of the keys, where a subvolume is unavailable.
use Rattle.std.proofs.Common.{◌∙◌, sym, ap, arith}
use Rattle.findings.proofs.Reports.{reports_as, reports_nil}
use Rattle.pairs.specs.Pairs.{sort}
use Rattle.pairs.proofs.Order.{sorted_by}
use Rattle.book.specs.Book.{book_of}
use Rattle.book.proofs.Walk.{parts}
use Rattle.subvolumes.proofs.Members.{judged_all, states_none}
use Rattle.subvolumes.proofs.subvolume_states.Goals as goal

pub new-pairs-requires-clause-sorted : goal.new-pairs-requires-clause-sorted
new-pairs-requires-clause-sorted c = sorted_by _ _ c.sort_pairs.ensures.n_after

pub invariant_of-states : goal.invariant_of-states
invariant_of-states c =
    let e = c.new-pairs.ensures in
    record { few = omega (arith, e.1, c.put_pairs-count.ensures.few); all = rw (e.0, e.1) (c.sort_pairs.ensures.n_after ∙ ap sort c.put_pairs-count.ensures.put) }

pub returns-then-has_gone-clause-reports : goal.returns-then-has_gone-clause-reports
returns-then-has_gone-clause-reports c =
    let b = c.args.book in
    let p = parts b.opened in
    let e = c.new-pairs.ensures in
    let all = c.sort_pairs.ensures.n_after ∙ ap sort c.put_pairs-count.ensures.put in
    reports_as (judged_all (book_of b.bytes.now) b.bytes.now b.header.keys b.places.keys p.small p.keys_fit p.keys (rw (e.0, e.1) all)) c.show_subvolumes.ensures.reports

pub returns-else-has_gone-clause-reports : goal.returns-else-has_gone-clause-reports
returns-else-has_gone-clause-reports c = reports_nil (states_none (book_of c.args.book.bytes.now) (sym c.has_gone.ensures ∙ c.if-has_gone.false))
