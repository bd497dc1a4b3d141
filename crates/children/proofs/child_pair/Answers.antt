-- By the tests.
use Rattle.std.proofs.Common.{◌∙◌, sym}
use Rattle.children.proofs.Children.{child_subvolume, child_entry, child_none}
use Rattle.children.proofs.child_pair.Goals as goal

pub returns-then-has_fs_parent : goal.returns-then-has_fs_parent
returns-then-has_fs_parent c = child_subvolume _ _ (sym c.has_fs_parent.ensures ∙ c.if-has_fs_parent.true) c.offset.ensures

pub returns-then-is : goal.returns-then-is
returns-then-is c =
    child_entry _ _ (sym c.has_fs_parent.ensures ∙ c.if-has_fs_parent.false) (sym c.is.ensures ∙ c.if-is.true) c.offset-then-is.ensures
    (rw (← c.inode.ensures) c.min-parent.ensures)

pub returns : goal.returns
returns c = child_none _ _ (sym c.has_fs_parent.ensures ∙ c.if-has_fs_parent.false) (sym c.is.ensures ∙ c.if-is.false)
