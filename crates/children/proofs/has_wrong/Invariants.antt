-- None of the pairs before is wrong, and the parent of a child is known.
use Rattle.std.proofs.Common.{◌≡◌, drop}
use Rattle.pairs.specs.Pairs.{pairs_of}
use Rattle.book.specs.Book.{book_of}
use Rattle.children.specs.SubvolumeChildren.{fs_parents}
use Rattle.children.specs.Steps.{any_wrong, Known}
use Rattle.children.proofs.has_wrong.Given as goal

abbrev pub invariant-loop-i : goal.invariant-loop-i
invariant-loop-i l =
    let b = book_of l.fn.children.book.bytes.now in
    let xs = pairs_of l.fn.children.pairs.words.now l.fn.children.pairs.count in
    record {
      known : Known b l.child;
      left : any_wrong (fs_parents b) xs ≡ any_wrong (fs_parents b) (drop l.i xs);
    }
