-- The table of the book.
use Rattle.std.proofs.Common.{arith}
use Rattle.book.proofs.Walk.{parts}
use Rattle.links.proofs.snapshot_of.Goals as goal

pub find_word-requires : goal.find_word-requires
find_word-requires c = ((parts c.args.book.opened).subvolumes_rise, omega arith)

pub returns : goal.returns
returns c = rw (parts c.args.book.opened).subvolumes c.find_word.ensures.0
