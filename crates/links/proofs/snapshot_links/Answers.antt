-- The pairs of the keys, sorted, are what is looked up; without the mark nothing is found.
use Rattle.std.proofs.Common.{◌∙◌, sym, ap, arith}
use Rattle.findings.proofs.Reports.{reports_as, reports_more, reports_nil}
use Rattle.pairs.specs.Pairs.{sort}
use Rattle.pairs.proofs.Order.{sorted_by}
use Rattle.book.specs.Book.{book_of}
use Rattle.book.proofs.Walk.{parts, few_keys}
use Rattle.links.proofs.Words.{links_marked, links_unmarked}
use Rattle.links.proofs.snapshot_links.Goals as goal

pub returns-then-not-book-clause-reports : goal.returns-then-not-book-clause-reports
returns-then-not-book-clause-reports c =
    let b = c.args.book in
    reports_nil (links_unmarked (book_of b.bytes.now) (parts b.opened).header c.if-not-book.true)

pub new-pairs-requires : goal.new-pairs-requires
new-pairs-requires c =
    record { inside = omega (arith, c.requires.room, c.put_links-count.ensures.few, c.put_links-count.auto.work, c.sort_pairs.auto.w); sorted = sorted_by _ _ c.sort_pairs.ensures.n_after }

pub invariant_of-links : goal.invariant_of-links
invariant_of-links c =
    let e = c.new-pairs.ensures in
    record { few = omega (arith, e.1, c.put_links-count.ensures.few); all = rw (e.0, e.1) (c.sort_pairs.ensures.n_after ∙ ap sort c.put_links-count.ensures.put) }

pub returns-clause-reports : goal.returns-clause-reports
returns-clause-reports c =
    let b = c.args.book in
    reports_as (links_marked (book_of b.bytes.now) (parts b.opened).header c.if-not-book.false)
    (reports_more c.show_trees.ensures.reports c.show_snapshots.ensures.reports)
