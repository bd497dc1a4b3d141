-- The sets, sorted, say of each key what the rule says.
use Rattle.std.proofs.Common.{◌∙◌, ap}
use Rattle.findings.proofs.Reports.{reports_as}
use Rattle.pairs.specs.Pairs.{sort}
use Rattle.pairs.proofs.Order.{sorted_by}
use Rattle.book.specs.Book.{book_of}
use Rattle.book.proofs.Walk.{parts}
use Rattle.deletions.proofs.Snapshots.{sets_all}
use Rattle.deletions.proofs.snapshot_states.Goals as goal

pub new-sets-requires-clause-sorted : goal.new-sets-requires-clause-sorted
new-sets-requires-clause-sorted c = sorted_by _ _ c.sort_pairs.ensures.n_after

pub returns-clause-reports : goal.returns-clause-reports
returns-clause-reports c =
    let b = c.args.book in
    let p = parts b.opened in
    let e = c.new-sets.ensures in
    let all = c.sort_pairs.ensures.n_after ∙ ap sort c.put_pairs-count.ensures.put in
    reports_as (sets_all (book_of b.bytes.now) b.bytes.now b.header.keys b.places.keys p.small p.keys_fit p.keys (rw (e.0, e.1) all)) c.show_snapshots.ensures.reports
