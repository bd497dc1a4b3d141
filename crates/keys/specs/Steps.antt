-- What only contracts of private functions cite.
use Rattle.std.specs.Prelude.{Bool, not, ◌&&◌, ◌||◌, eqb}
use Rattle.book.specs.Book.{Bkey}

-- a key of a btree that is filed by device
unfoldable pub by_device : Bkey → Bool
by_device k = eqb k.btree 4 || (eqb k.btree 13 || eqb k.btree 14)

-- a key of which these rules say nothing: of type 25, not filed by device, without a snapshot, and without a size but in btree 11
unfoldable pub quiet : Bkey → Bool
quiet k = (eqb k.key_type 25 && not (by_device k)) && ((eqb k.size 0 || eqb k.btree 11) && eqb k.snapshot 0)
