-- The one rule's findings, then the other's, where there are any.
use Rattle.std.proofs.Common.{◌∙◌, sym, append-nil, arith}
use Rattle.findings.proofs.Reports.{reports_as, reports_more}
use Rattle.book.proofs.Walk.{few_keys}
use Rattle.children.specs.SubvolumeChildren.{subvolume_children}
use Rattle.children.proofs.Children.{all_pairs, wrongs_none}
use Rattle.children.proofs.show_children.Goals as goal

pub show_wrongs-requires : goal.show_wrongs-requires
show_wrongs-requires c =
    let a = c.args.children.now in
    omega (arith, c.requires, a.few, few_keys a.book.opened, c.show_missings.ensures.few)

pub returns-then-has_wrong-clause-reports : goal.returns-then-has_wrong-clause-reports
unfolding subvolume_children
returns-then-has_wrong-clause-reports c = reports_more c.show_missings.ensures.reports c.show_wrongs.ensures.reports

pub returns-else-has_wrong-clause-reports : goal.returns-else-has_wrong-clause-reports
unfolding subvolume_children
returns-else-has_wrong-clause-reports c =
    let a = c.args.children.now in
    let none = wrongs_none a.book.opened (all_pairs a) (sym c.has_wrong.ensures ∙ c.if-has_wrong.false) in
    reports_as (sym (rw none (append-nil _))) c.show_missings.ensures.reports
