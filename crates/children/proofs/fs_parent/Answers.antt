-- A subvolume with a parent has the word for it.
use Rattle.std.proofs.Common.{arith}
use Rattle.walk.specs.Keys.{key_at}
use Rattle.children.proofs.Children.{parent_word}
use Rattle.children.proofs.fs_parent.Goals as goal

pub word-requires : goal.word-requires
word-requires c =
    let long = parent_word (key_at c.args.book.now c.args.at) c.requires.parent in
    rw (c.read.ensures.0, c.read.ensures.1) (omega (arith, long))
