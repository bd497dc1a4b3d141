-- None of the keys before is one.
use Rattle.std.proofs.Common.{◌≡◌}
use Rattle.book.specs.Book.{book_of}
use Rattle.subvolumes.proofs.States.{rest_of}
use Rattle.walk.specs.Keys.{any_key}
use Rattle.subvolumes.specs.SubvolumeStates.{unavailable}
use Rattle.subvolumes.proofs.has_gone.Given as goal

abbrev pub invariant-loop-key : goal.invariant-loop-key
invariant-loop-key l = any_key unavailable (book_of l.fn.book.bytes.now).keys ≡ any_key unavailable (rest_of l.key-iterator)
