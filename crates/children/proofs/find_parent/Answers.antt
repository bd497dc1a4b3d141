-- By what `find_place_from` answers.
use Rattle.std.proofs.Common.{◌∙◌, sym, rules}
use Rattle.book.proofs.Walk.{parts}
use Rattle.maps.proofs.Places.{find_held}
use Rattle.children.proofs.Children.{all_pairs, subvolumes, child_at, parent_found, parent_absent}
use Rattle.children.proofs.find_parent.Goals as goal

pub returns-in_err-at : goal.returns-in_err-at
returns-in_err-at c =
    let a = c.args.children.now in
    let none = parent_absent a.book.opened (all_pairs a) _ (sym c.find_place_from.ensures ∙ c.in_err-at.was) in
    rw (← none) (search rules)

pub fs_parent-requires : goal.fs_parent-requires
fs_parent-requires c =
    let a = c.args.children.now in
    child_at (parts a.book.opened).small (find_held subvolumes (all_pairs a) _ _ (sym c.find_place_from.ensures ∙ c.in_ok-at.was))

pub returns : goal.returns
returns c =
    let a = c.args.children.now in
    parent_found a.book.opened (all_pairs a) _ (sym c.find_place_from.ensures ∙ c.in_ok-at.was) c.fs_parent.ensures
