-- What the functions over a book ask of it: a table has a form that can be read, the keys lie within the book, and the tables rise.
use Rattle.std.specs.Prelude.{ℕ, zero, suc, ◌+◌, ◌*◌, ◌%◌, ◌≤◌, ◌<◌, ◌≡◌, true, List, length, Ok}
use Rattle.std.specs.Coded.{×_prop, Unit-prop, le_prop}
use Rattle.book.specs.declared.Header.{Header}
use Rattle.book.specs.declared.Places.{Places}
use Rattle.book.specs.declared.Table.{Table}
use Rattle.book.specs.declared.Entry.{Entry}
use Rattle.book.specs.declared.AllocEntry.{AllocEntry}
use Rattle.book.specs.declared.KeyHead.{KeyHead}
use Rattle.book.specs.declared.KeyFront.{KeyFront}
use Rattle.book.specs.Book.{header_of, places_of, entry_at, data_type_of, key_end}
use Rattle.book.specs.Refusals.{book_verdict}

-- s is accepted, and these are its header and its places: what `scan` found, and every rule goes by
pub record Opened (s : List ℕ) (h : Header) (at : Places) : Type 0 where
  pub accepted : book_verdict s ≡ Ok tt
  pub header : h ≡ header_of s
  pub places : at ≡ places_of (header_of s)

-- the n keys from byte p on lie within the bytes
unfoldable pub KeysFit : List ℕ → ℕ → ℕ → Type 0
KeysFit s zero p = Unit {0}
KeysFit s (suc n) p = (key_end s p ≤ length s) × KeysFit s n (key_end s p)

-- that has one proof at most
pub keys_fit_prop : (s : List ℕ) (n p : ℕ) → IsProp (KeysFit s n p)
unfolding KeysFit
keys_fit_prop s zero p = Unit-prop
keys_fit_prop s (suc n) p = ×_prop le_prop (keys_fit_prop s n (key_end s p))

-- a table whose first field is a word of 32 or 64 bits, and that only as an alloc table has types: each of the four is
pub record Readable (t : Table) : Type 0 where
  pub least : 32 ≤ t.first
  pub most : t.first ≤ 64
  pub words : t.first % 32 ≡ 0
  pub inside : t.first ≤ 8 * t.size
  pub rest : 8 * t.size ≤ t.first + 64
  pub typed : t.typed ≡ true → (t.first ≡ 64) × (t.size ≡ 10)

-- the first field of entry i of a table that starts at byte start
abbrev pub first_at : Table → List ℕ → ℕ → ℕ → ℕ
first_at t s start i = (entry_at t s (start + i * t.size)).first

-- the n entries of a table that starts at byte start lie within the bytes, and their first fields rise
pub record Rising (t : Table) (s : List ℕ) (start n : ℕ) : Type 0 where
  pub inside : start + n * t.size ≤ length s
  pub rises : (i j : ℕ) → i < j → j < n → first_at t s start i < first_at t s start j

-- what a rule passes over a key by
abbrev pub front_of : KeyHead → KeyFront
front_of h = record { btree = h.btree; key_type = h.key_type; len = h.len; spare = h.spare }

-- an alloc entry, as the pair that it is in the book's map
abbrev pub alloc_entry_of : Entry → AllocEntry
alloc_entry_of e = record { bucket = e.first; data_type = data_type_of e.rest }
