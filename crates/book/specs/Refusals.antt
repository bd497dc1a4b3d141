-- Which bytes are a book: document 01's refusals 1 to 8, "1, 2, 3; then entries from front to back, at each 4, 5, 6, 7;
-- then 8", and document 02's 12, "tested after 3", and 13, "directly after 12".
use Rattle.std.specs.Prelude.{ℕ, zero, suc, ◌+◌, ◌-◌, ◌/◌, ◌%◌, Bool, true, false, not, ◌&&◌, ◌||◌, List, length, ltb, leb, eqb, Result, Ok, Err}
use Rattle.book.specs.declared.Header.{Header}
use Rattle.book.specs.declared.Places.{Places}
use Rattle.book.specs.declared.Table.{Table}
use Rattle.book.specs.declared.refusal.Refusal.{Refusal}
use Rattle.book.specs.declared.refusal.Reason.{Reason}
use Rattle.book.specs.declared.refusal.Reason.TheVariants as reason
use Rattle.book.specs.Book.{header_size, header_of, places_of, words_table, gens_table, alloc_table, entry_at, key_head, key_end, Book, book_of}

-- a refusal's number and its place
abbrev pub refusal : ℕ → ℕ → Refusal
refusal number place = record { number = number; place = place }

-- what a check of a book, or of a part of it, gives: nothing, or a refusal
abbrev pub Verdict : Type 0
Verdict = Result (Unit {0}) Refusal

-- refused by this number at this place, if the test holds
unfoldable pub refuse : Bool → ℕ → ℕ → Verdict
refuse true number place = Err (refusal number place)
refuse false number place = Ok tt

infixr 20 ◌then◌
-- the first refusal of two checks
unfoldable pub ◌then◌ : Verdict → Verdict → Verdict
(Ok passed) then v = v
(Err r) then v = Err r

-- the rest of an alloc entry (has-type 1 bit, data type 8, spare 7) with a spare bit set, or with a data type without has-type
unfoldable pub bad_rest : Bool → ℕ → Bool
bad_rest typed rest = typed && (not (eqb (rest % 128) 0) || (eqb (rest / 32768) 0 && not (eqb (rest / 128 % 256) 0)))

-- 4, 5 and 6 at the entry at byte p of a table that starts at byte start: it "runs past the end"; "spare bit set, or a data type
-- without has-type"; "first field not above the entry before in its table"
unfoldable pub entry_verdict : Table → List ℕ → ℕ → ℕ → Verdict
entry_verdict t s start p =
    refuse (ltb (length s) (p + t.size)) 4 p then
    refuse (bad_rest t.typed (entry_at t s p).rest) 5 p then
    refuse (leb (start + t.size) p && leb (entry_at t s p).first (entry_at t s (p - t.size)).first) 6 p

-- the n entries from byte p on, of a table that starts at byte start
unfoldable pub table_verdict : Table → List ℕ → ℕ → ℕ → ℕ → Verdict
table_verdict t s start zero p = Ok tt
table_verdict t s start (suc n) p = entry_verdict t s start p then table_verdict t s start n (p + t.size)

-- 4, 5 and 7 at the key at byte p: its "key head or value runs past the end"; "spare bit set"; "key of btree 15, mark clear"
unfoldable pub key_verdict : Bool → List ℕ → ℕ → Verdict
key_verdict trees s p =
    refuse (ltb (length s) (key_end s p)) 4 p then
    refuse (not (eqb (key_head s p).spare 0)) 5 p then
    refuse (eqb (key_head s p).btree 15 && not trees) 7 p

-- the n keys from byte p on; then 8, "bytes after the last key"
unfoldable pub keys_verdict : Bool → List ℕ → ℕ → ℕ → Verdict
keys_verdict trees s zero p = refuse (ltb p (length s)) 8 p
keys_verdict trees s (suc n) p = key_verdict trees s p then keys_verdict trees s n (key_end s p)

-- "entries from front to back": the four tables, then the keys
unfoldable pub parts_verdict : List ℕ → Header → Places → Verdict
parts_verdict s h at =
    table_verdict words_table s at.parents h.parents at.parents then
    table_verdict words_table s at.subvolumes h.subvolumes at.subvolumes then
    table_verdict gens_table s at.gens h.gens at.gens then
    table_verdict alloc_table s at.alloc h.alloc at.alloc then
    keys_verdict h.trees s h.keys at.keys

-- "A parents table of 4,096 entries is taken and one of 4,097 refused"
abbrev pub parents_max : ℕ
parents_max = 4096

-- 3, "layout not 1, or spare header bit set"; 12, "drawn mark set with a non-zero parents count"; 13, "parents count over
-- 4,096": "drawn parents are not counted"
unfoldable pub header_verdict : Header → Verdict
header_verdict h =
    refuse (not (eqb h.layout 1) || not (eqb h.spare 0)) 3 0 then
    refuse (h.drawn && not (eqb h.parents 0)) 12 0 then
    refuse (ltb parents_max h.parents) 13 0

-- 1, "book over 1,048,576 bytes"; 2, "under 32 bytes"; then the header, and then the parts
unfoldable pub book_verdict : List ℕ → Verdict
book_verdict s =
    refuse (ltb 1048576 (length s)) 1 0 then
    refuse (ltb (length s) header_size) 2 0 then
    header_verdict (header_of s) then
    parts_verdict s (header_of s) (places_of (header_of s))

-- what bytes are as a book: the book, or a refusal's number and place
pub data Outcome : Type 0 where
  accepted : Book → Outcome
  refused : ℕ → ℕ → Outcome

-- the outcome by a verdict
unfoldable pub outcome_of : Verdict → Book → Outcome
outcome_of (Ok passed) b = accepted b
outcome_of (Err r) b = refused r.number r.place

-- "A book is accepted if none of 1 to 8 is given"; by 12, "a book so refused is not accepted", and so by 13
unfoldable pub parse : List ℕ → Outcome
parse s = outcome_of (book_verdict s) (book_of s)

-- the numbers of the refusals, by the names that the code has for them: 1 to 11 of document 01, 12 and 13 of document 02
abbrev pub reason_number : Reason → ℕ
reason_number reason.BookLong = 1
reason_number reason.BookShort = 2
reason_number reason.HeaderBad = 3
reason_number reason.PastEnd = 4
reason_number reason.SpareBit = 5
reason_number reason.NotRising = 6
reason_number reason.TreeKey = 7
reason_number reason.BytesLeft = 8
reason_number reason.WorkShort = 9
reason_number reason.FindingsExceed = 10
reason_number reason.NoRoot = 11
reason_number reason.DrawnTable = 12
reason_number reason.ParentsMany = 13
