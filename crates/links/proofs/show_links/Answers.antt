-- Call after call.
use Rattle.std.proofs.Common.{refl, arith}
use Rattle.findings.proofs.Reports.{reports_as, reports_more}
use Rattle.book.specs.Book.{book_of}
use Rattle.book.specs.Turns.{held}
use Rattle.ancestors.proofs.Laws.{lined_few}
use Rattle.links.proofs.Words.{links_shown}
use Rattle.links.proofs.show_links.Goals as goal

pub show_skips-requires : goal.show_skips-requires
show_skips-requires c =
    let l = c.requires.lined.0 in
    (c.requires.ready.0, lined_few _ l, l.full, omega (arith, c.requires.ready.1, c.show_root.ensures.few, c.show_backref.ensures.few, c.show_children.ensures.few))

pub returns-clause-reports : goal.returns-clause-reports
returns-clause-reports c =
    reports_as (links_shown (book_of c.args.links.now.book.bytes.now) _ (held c.args.key) refl c.requires.lined.1 c.requires.lined.0)
    (reports_more c.show_root.ensures.reports (reports_more c.show_backref.ensures.reports (reports_more c.show_children.ensures.reports c.show_skips.ensures.reports)))
