-- Some pair is wrong if one of those left is.
use Rattle.std.proofs.Common.{refl, sym, ◌∙◌, arith}
use Rattle.book.specs.Book.{book_of}
use Rattle.children.specs.SubvolumeChildren.{fs_parents}
use Rattle.children.proofs.Children.{wrong_here, wrong_past}
use Rattle.children.proofs.has_wrong.Goals as goal

pub loop-i-init : goal.loop-i-init
loop-i-init c = record { known = record { parent = c.find_parent-parent.ensures }; left = refl }

pub child_at-child-requires : goal.child_at-child-requires
child_at-child-requires c = (c.loop-i-test.true, c.loop-i.invariant.known)

pub returns-then-is_wrong : goal.returns-then-is_wrong
returns-then-is_wrong c =
    let child = c.child_at-child.ensures in
    sym (c.loop-i.invariant.left ∙ wrong_here c.args.children.now c.loop-i.i c.loop-i-test.true child.0 child.1 c.second.ensures c.is_wrong.ensures ∙ rw c.if-is_wrong.true)

pub loop-i-preserved : goal.loop-i-preserved
loop-i-preserved c =
    let child = c.child_at-child.ensures in
    record {
      known = child.1;
      left = c.loop-i.invariant.left ∙ wrong_here c.args.children.now c.loop-i.i c.loop-i-test.true child.0 child.1 c.second.ensures c.is_wrong.ensures ∙ rw c.if-is_wrong.false;
    }

pub returns : goal.returns
returns c =
    let a = c.args.children.now in
    sym (c.loop-i.invariant.left ∙ wrong_past (fs_parents (book_of a.book.bytes.now)) a.pairs.words.now a.pairs.count c.loop-i.i (omega (arith, c.loop-i-test.false)))
