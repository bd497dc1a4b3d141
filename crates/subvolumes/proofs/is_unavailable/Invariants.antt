-- None of the keys before is one.
use Rattle.std.proofs.Common.{◌≡◌}
use Rattle.book.specs.Book.{book_of}
use Rattle.subvolumes.proofs.States.{rest_of}
use Rattle.subvolumes.specs.SubvolumeStates.{is_unavailable}
use Rattle.subvolumes.proofs.is_unavailable.Given as goal

abbrev pub invariant-loop-key : goal.invariant-loop-key
invariant-loop-key l = is_unavailable l.id (book_of l.fn.book.bytes.now).keys ≡ is_unavailable l.id (rest_of l.key-iterator)
