-- Document 01's examples of refusals, those of document 02's 12 and 13, what small books are read as, and which parents
-- are drawn.
use Rattle.std.specs.Prelude.{None, Some}
use Prim.Native.Nat.{ℕ, ◌+◌, ◌/◌, ◌%◌, ◌^◌, ◌<◌, ◌≤◌}
use mathlib.Core.Bool.{true, false}
use mathlib.Core.Path.{◌≡◌, refl}
use mathlib.Core.List.{List, [], ◌∷◌, ◌++◌, map}
use lib.ListN.{length, replicate, length-replicate}
use native.Mathlib.Omega.{arith}
use borrow.Author.Tests.{lt-ltb, le-ltb}
use Rattle.bits.specs.Bits.{bit, bits_at, le_at}
use Rattle.std.specs.Prelude.{Result, Ok, Err}
use Rattle.findings.specs.Findings.{keep}
use Rattle.book.specs.Book.{header_size, header_of, places_of, entry_at, data_type_of, table_from, key_head, key_end, is, Bkey, keys_from, book_of}
use Rattle.book.specs.Maps.{insert, insert_all, collect}
use Rattle.book.specs.Words.{holds, id_of}
use Rattle.book.specs.KeyMaps.{map_of, drawn_from, parents_of}
use Rattle.book.specs.Refusals.{refuse, ◌then◌, bad_rest, entry_verdict, table_verdict, key_verdict, keys_verdict, parts_verdict, parents_max, header_verdict, book_verdict, refusal}

zeros : ℕ → List ℕ
zeros n = replicate n 0

-- a count in its two bytes
count : ℕ → List ℕ
count n = n / 256 ∷ n % 256 ∷ []

-- a header of layout 1 with this mark byte and these counts of keys and parents
header : ℕ → ℕ → ℕ → List ℕ
header mark keys parents = (mark ∷ zeros 5) ++ count keys ++ zeros 16 ++ count parents ++ zeros 6

-- the listing's book: a free run of size 0 in btree 11
listing : List ℕ
listing =
    (0x18 ∷ 0 ∷ 4 ∷ 0x27 ∷ 0 ∷ 1 ∷ 0 ∷ 1 ∷ zeros 15) ++ (4 ∷ zeros 8) ++ (0x0b ∷ 0x19 ∷ zeros 14) ++ (zeros 7 ++ (2 ∷ zeros 4))

books : List (List ℕ)
books =
    listing ∷
    [] ∷
    zeros 32 ∷
    header 0x10 1 0 ∷
    (header 0x10 1 0 ++ (0 ∷ 0 ∷ 0 ∷ 1 ∷ zeros 24)) ∷
    (header 0x10 0 2 ++ (0 ∷ 0 ∷ 0 ∷ 5 ∷ zeros 4) ++ (0 ∷ 0 ∷ 0 ∷ 5 ∷ zeros 4)) ∷
    (header 0x10 1 0 ++ (15 ∷ zeros 27)) ∷
    (header 0x18 1 0 ++ (15 ∷ zeros 27)) ∷
    (header 0x10 0 0 ++ zeros 1) ∷
    header 0x14 0 1 ∷
    header 0x16 0 1 ∷
    header 0x14 0 0 ∷
    -- 13: 4,095 and 4,096 parents are taken, and then the first of them is not there; of 4,097 no entry is looked at
    header 0x10 0 4095 ∷
    header 0x10 0 4096 ∷
    header 0x10 0 4097 ∷
    (header 0x10 0 4097 ++ zeros 16) ∷
    header 0x10 0 65535 ∷
    -- 3 comes before it, and 12; drawn parents are not counted
    header 0x11 0 4097 ∷
    header 0x14 0 5000 ∷
    header 0x14 5000 0 ∷
    []

examples : map book_verdict books ≡
    Ok tt ∷ Err (refusal 2 0) ∷ Err (refusal 3 0) ∷ Err (refusal 4 32) ∷ Err (refusal 5 32) ∷ Err (refusal 6 40) ∷ Err (refusal 7 32) ∷ Ok tt ∷ Err (refusal 8 32) ∷ Err (refusal 12 0) ∷ Err (refusal 3 0) ∷ Ok tt
    ∷ Err (refusal 4 32) ∷ Err (refusal 4 32) ∷ Err (refusal 13 0) ∷ Err (refusal 13 0) ∷ Err (refusal 13 0) ∷ Err (refusal 3 0) ∷ Err (refusal 12 0) ∷ Err (refusal 4 32) ∷ []
unfolding zeros count header listing books bit bits_at refuse ◌then◌ header_of entry_at bad_rest entry_verdict table_verdict key_head key_end key_verdict keys_verdict places_of parts_verdict header_verdict book_verdict
examples = refl

-- the example of refusal 1, by the length alone
past_the_limit : (s : List ℕ) → 1048576 < length s → book_verdict s ≡ Err (refusal 1 0)
unfolding refuse ◌then◌ book_verdict
past_the_limit s long = simp (lt-ltb _ _ long)

too_long : (n : ℕ) → 1048576 < n → book_verdict (zeros n) ≡ Err (refusal 1 0)
unfolding zeros
too_long n long = past_the_limit (zeros n) (omega (arith, length-replicate {A = ℕ} n 0))

-- 13 by the header alone, whatever follows it
too_many : (s : List ℕ) → length s ≤ 1048576 → header_size ≤ length s → (header_of s).layout ≡ 1 → (header_of s).spare ≡ 0 →
    (header_of s).drawn ≡ false → parents_max < (header_of s).parents → book_verdict s ≡ Err (refusal 13 0)
unfolding refuse ◌then◌ header_verdict book_verdict
too_many s short long one spare table many = simp (le-ltb _ _ short, le-ltb _ _ long, one, spare, table, lt-ltb _ _ many)

-- a book with an entry in each table, two in alloc, and a key with a value of two bytes
small : List ℕ
small =
    (0x18 ∷ 0 ∷ 4 ∷ 0x27 ∷ 0 ∷ 1 ∷ 0 ∷ 1 ∷ zeros 7) ++ (3 ∷ zeros 7) ++ (9 ∷ 0 ∷ 1 ∷ 0 ∷ 1 ∷ 0 ∷ 1 ∷ 0 ∷ 2 ∷ [])
    ++ (0 ∷ 0 ∷ 0 ∷ 7 ∷ 0 ∷ 0 ∷ 0 ∷ 5 ∷ []) ++ (0 ∷ 0 ∷ 1 ∷ 0 ∷ 0 ∷ 0 ∷ 0 ∷ 7 ∷ []) ++ (zeros 7 ++ (6 ∷ 200 ∷ []))
    ++ (zeros 7 ++ (6 ∷ 0x82 ∷ 0 ∷ [])) ++ (zeros 7 ++ (8 ∷ 0 ∷ 0 ∷ []))
    ++ (9 ∷ 22 ∷ 0 ∷ 0x40 ∷ 0 ∷ 0 ∷ 1 ∷ 2 ∷ zeros 7) ++ (4 ∷ zeros 7) ++ (7 ∷ 0 ∷ 0 ∷ 0 ∷ 1 ∷ 0xab ∷ 0xcd ∷ [])

what_it_holds :
    (book_verdict small ≡ Ok tt)
    × ((book_of small).header.device ≡ 3) × ((book_of small).header.buckets ≡ 9) × ((book_of small).header.trees ≡ true)
    × (parents_of (book_of small) ≡ (7, 5) ∷ []) × ((book_of small).subvolumes ≡ (256, 7) ∷ []) × ((book_of small).gens ≡ (6, 200) ∷ [])
    × ((book_of small).alloc ≡ (6, Some 4) ∷ (8, None) ∷ [])
    × ((book_of small).keys ≡
    record { btree = 9; key_type = 22; size = 258; inode = 4; offset = 7; snapshot = 1; value = 0xab ∷ 0xcd ∷ [] } ∷ [])
unfolding zeros small bit bits_at refuse ◌then◌ header_of entry_at bad_rest entry_verdict table_verdict key_head key_end key_verdict keys_verdict places_of parts_verdict header_verdict book_verdict data_type_of table_from keys_from book_of parents_of
what_it_holds = (refl, refl, refl, refl, refl, refl, refl, refl, refl)

-- a key whose value has flags 2 and then these bytes
snapshot : ℕ → ℕ → ℕ → List ℕ → Bkey
snapshot btree key_type offset parent = record { btree = btree; key_type = key_type; size = 0; inode = 0; offset = offset; snapshot = 0; value = 2 ∷ 0 ∷ 0 ∷ 0 ∷ parent }

-- 6 has no parent; of 4 the second key gives it, by the low half of its offset, and the others do not: one of 7 bytes, one of another type, one of
-- another btree
drawn_parents :
    drawn_from
    (snapshot 9 22 6 (0 ∷ 0 ∷ 0 ∷ 0 ∷ []) ∷
    snapshot 9 22 4 (5 ∷ 0 ∷ 0 ∷ 0 ∷ []) ∷
    snapshot 9 22 (2 ^ 32 + 4) (7 ∷ 1 ∷ 0 ∷ 0 ∷ 9 ∷ []) ∷
    snapshot 9 22 4 (8 ∷ 0 ∷ 0 ∷ []) ∷
    snapshot 9 21 4 (8 ∷ 0 ∷ 0 ∷ 0 ∷ []) ∷
    snapshot 8 22 4 (8 ∷ 0 ∷ 0 ∷ 0 ∷ []) ∷
    [])
    ≡ (4, 263) ∷ (6, 0) ∷ []
unfolding snapshot le_at keep insert insert_all collect is holds id_of map_of drawn_from
drawn_parents = refl
