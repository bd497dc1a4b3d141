-- By whether the pair is its number's last.
use Rattle.std.proofs.Common.{◌∙◌, sym, arith}
use Rattle.findings.specs.Findings.{only}
use Rattle.findings.proofs.Reports.{reports_as, reports_nil}
use Rattle.book.proofs.Walk.{parts}
use Rattle.maps.proofs.Places.{last_held}
use Rattle.children.proofs.Children.{all_pairs, subvolumes, child_at, entry_there, missing_one}
use Rattle.children.proofs.show_missing.Goals as goal

pub fs_parent-parent-requires : goal.fs_parent-parent-requires
fs_parent-parent-requires c =
    let a = c.args.children.now in
    let held = last_held subvolumes a.pairs.words.now a.pairs.count (all_pairs a) c.args.i c.requires.0 a.pairs.wide (sym c.is_last.ensures ∙ c.if-is_last.true) in
    rw c.second-place.ensures (child_at (parts a.book.opened).small held)

pub returns-then-is_last-clause-reports : goal.returns-then-is_last-clause-reports
unfolding only
returns-then-is_last-clause-reports c =
    let a = c.args.children.now in
    let e = sym c.is_last.ensures ∙ c.if-is_last.true in
    let parent = c.fs_parent-parent.ensures in
    let entry = entry_there a.book.opened (all_pairs a) c.fs_parent-parent.result c.first-child.result (omega arith) c.has_from-entry.ensures in
    reports_as (rw (e, ← c.first-child.ensures) (missing_one _ _ (rw c.second-place.ensures at parent) entry)) c.emit_if.ensures.reports

pub returns-else-is_last-clause-reports : goal.returns-else-is_last-clause-reports
unfolding only
returns-else-is_last-clause-reports c = let e = sym c.is_last.ensures ∙ c.if-is_last.false in reports_nil (rw e)
