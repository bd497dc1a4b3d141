-- What the bytes of a book say (document 01, "The entry"): header, tables and keys, packed most significant bit first.
-- Which bytes are a book is said in Refusals. The records Header, Places, Table, Entry and KeyHead are those that src/lib.rt declares.
use Rattle.std.specs.Prelude.{ℕ, zero, suc, ◌+◌, ◌-◌, ◌*◌, ◌/◌, ◌%◌, Bool, true, false, cond, ◌&&◌, List, [], ◌∷◌, take, drop, eqb, None, Option, Some}
use Rattle.bits.specs.Bits.{bits_at}
use Rattle.book.specs.declared.Header.{Header}
use Rattle.book.specs.declared.Places.{Places}
use Rattle.book.specs.declared.Table.{Table}
use Rattle.book.specs.declared.Entry.{Entry}
use Rattle.book.specs.declared.KeyHead.{KeyHead}

-- "Header, 32 bytes"
abbrev pub header_size : ℕ
header_size = 32

-- "layout 4 bits .. trees mark 1 .. spare 11, version 16, first bucket 16, key count 16; device 64; bucket count 64;
-- counts of parents, subvolumes, gens, alloc, 16 each"; "The spare header bit after the trees mark becomes the drawn mark"
unfoldable pub header_of : List ℕ → Header
header_of s = record {
  layout = bits_at s 0 4;
  trees = eqb (bits_at s 4 1) 1;
  drawn = eqb (bits_at s 5 1) 1;
  spare = bits_at s 6 10;
  version = bits_at s 16 16;
  first_bucket = bits_at s 32 16;
  keys = bits_at s 48 16;
  device = bits_at s 64 64;
  buckets = bits_at s 128 64;
  parents = bits_at s 192 16;
  subvolumes = bits_at s 208 16;
  gens = bits_at s 224 16;
  alloc = bits_at s 240 16;
}

-- the four tables: the bytes of an entry, the bits of its first field, and whether the rest is an alloc entry's

-- "Parents: id 32, parent 32. Subvolumes: id 32, snapshot 32."
abbrev pub words_table : Table
words_table = record { size = 8; first = 32; typed = false }

-- "Gens: bucket 64, generation 8."
abbrev pub gens_table : Table
gens_table = record { size = 9; first = 64; typed = false }

-- "Alloc: bucket 64, has-type 1, data type 8, spare 7."
abbrev pub alloc_table : Table
alloc_table = record { size = 10; first = 64; typed = true }

-- the entry of a table at byte p: its first field, and the number that the rest of its bits makes
unfoldable pub entry_at : Table → List ℕ → ℕ → Entry
entry_at t s p = record { first = bits_at s (8 * p) t.first; rest = bits_at s (8 * p + t.first) (8 * t.size - t.first) }

-- the data type of an alloc entry, by the rest of its bits: none without has-type
unfoldable pub data_type_of : ℕ → Option ℕ
data_type_of rest = cond (eqb (rest / 32768) 1) (Some (rest / 128 % 256)) None

-- the rest of an entry of the other three tables is one field
abbrev pub whole_rest : ℕ → ℕ
whole_rest rest = rest

-- the n entries of a table from byte p on, as a map: the first fields, and what `read` finds in the rests
unfoldable pub table_from : {A : Type 0} → (ℕ → A) → Table → List ℕ → ℕ → ℕ → List (ℕ × A)
table_from read t s zero p = []
table_from read t s (suc n) p = ((entry_at t s p).first, read (entry_at t s p).rest) ∷ table_from read t s n (p + t.size)

-- a parents or subvolumes table, a gens table, an alloc table: n entries from byte p on
abbrev pub words_from : List ℕ → ℕ → ℕ → List (ℕ × ℕ)
words_from s n p = table_from whole_rest words_table s n p

abbrev pub gens_from : List ℕ → ℕ → ℕ → List (ℕ × ℕ)
gens_from s n p = table_from whole_rest gens_table s n p

abbrev pub alloc_from : List ℕ → ℕ → ℕ → List (ℕ × Option ℕ)
alloc_from s n p = table_from data_type_of alloc_table s n p

-- where the tables and the keys start: each part right after the one before it
unfoldable pub places_of : Header → Places
places_of h =
    let subvolumes = header_size + 8 * h.parents in
    let gens = subvolumes + 8 * h.subvolumes in
    let alloc = gens + 9 * h.gens in
    record { parents = header_size; subvolumes = subvolumes; gens = gens; alloc = alloc; keys = alloc + 10 * h.alloc }

-- "Keys: btree 8, type 8, value length 11, spare 5, size 32, inode 64, offset 64, snapshot 32; then the value":
-- the head of the key at byte p, with the start and the length of its value
unfoldable pub key_head : List ℕ → ℕ → KeyHead
key_head s p = record {
  btree = bits_at s (8 * p) 8;
  key_type = bits_at s (8 * p + 8) 8;
  len = bits_at s (8 * p + 16) 11;
  spare = bits_at s (8 * p + 27) 5;
  size = bits_at s (8 * p + 32) 32;
  inode = bits_at s (8 * p + 64) 64;
  offset = bits_at s (8 * p + 128) 64;
  snapshot = bits_at s (8 * p + 192) 32;
  start = p + 28;
}

-- the first byte past the key at byte p
unfoldable pub key_end : List ℕ → ℕ → ℕ
key_end s p = (key_head s p).start + (key_head s p).len

-- a key, with the bytes of its value
pub record Bkey : Type 0 where
  pub btree : ℕ
  pub key_type : ℕ
  pub size : ℕ
  pub inode : ℕ
  pub offset : ℕ
  pub snapshot : ℕ
  pub value : List ℕ

-- the key with this head and this value
abbrev pub bkey : KeyHead → List ℕ → Bkey
bkey h value = record {
  btree = h.btree;
  key_type = h.key_type;
  size = h.size;
  inode = h.inode;
  offset = h.offset;
  snapshot = h.snapshot;
  value = value;
}

-- a key of this btree and this type
unfoldable pub is : ℕ → ℕ → Bkey → Bool
is btree key_type k = eqb k.btree btree && eqb k.key_type key_type

-- the key whose value stands in the bytes s
abbrev pub key_of : List ℕ → KeyHead → Bkey
key_of s h = bkey h (take h.len (drop h.start s))

-- the n keys from byte p on
unfoldable pub keys_from : List ℕ → ℕ → ℕ → List Bkey
keys_from s zero p = []
keys_from s (suc n) p = key_of s (key_head s p) ∷ keys_from s n (key_end s p)

-- a book: its header, its four tables as maps, its keys in book order
pub record Book : Type 0 where
  pub header : Header
  pub parents : List (ℕ × ℕ)
  pub subvolumes : List (ℕ × ℕ)
  pub gens : List (ℕ × ℕ)
  pub alloc : List (ℕ × Option ℕ)
  pub keys : List Bkey

-- the book that accepted bytes hold
unfoldable pub book_of : List ℕ → Book
book_of s =
    let h = header_of s in
    let at = places_of h in
    record {
      header = h;
      parents = words_from s h.parents at.parents;
      subvolumes = words_from s h.subvolumes at.subvolumes;
      gens = gens_from s h.gens at.gens;
      alloc = alloc_from s h.alloc at.alloc;
      keys = keys_from s h.keys at.keys;
    }
