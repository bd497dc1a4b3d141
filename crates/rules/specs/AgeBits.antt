-- "For btree 11 the free-space rule reads the low 56 bits of the offset only, and names these in its findings. A run with
-- a zero top byte reads as before" (document 02, ticket 5).
use Rattle.std.specs.Prelude.{◌^◌, ◌<◌, ◌≡◌, true, cond, map, eqb}
use Rattle.book.specs.Names.{freespace}
use Rattle.book.specs.Book.{Bkey, Book}
use Rattle.buckets.specs.FreeSpace.{is_run, bucket_bits, run_end, free_space}

-- "fed offsets with that byte cleared": a key without the age above its 56 bits, if it is of btree 11
unfoldable pub ageless : Bkey → Bkey
ageless k = record {
  btree = k.btree;
  key_type = k.key_type;
  size = k.size;
  inode = k.inode;
  offset = cond (eqb k.btree freespace) (run_end k) k.offset;
  snapshot = k.snapshot;
  value = k.value;
}

-- a book of such keys
unfoldable pub ageless_book : Book → Book
ageless_book b = record {
  header = b.header;
  parents = b.parents;
  subvolumes = b.subvolumes;
  gens = b.gens;
  alloc = b.alloc;
  keys = map ageless b.keys;
}

-- ages of buckets in a book
pub record AgeBits (b : Book) : Type 0 where
  -- "A run with a zero top byte reads as before": the number that is read is then the whole offset
  pub whole : (k : Bkey) → k.offset < 2 ^ bucket_bits → run_end k ≡ k.offset
  -- ages change nothing: the rule finds what it finds with that byte cleared
  pub cleared : free_space b ≡ free_space (ageless_book b)
  -- where it reads whole offsets
  pub plain : (k : Bkey) → is_run k ≡ true → run_end (ageless k) ≡ (ageless k).offset
