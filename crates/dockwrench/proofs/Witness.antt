-- A forest book in bytes, of two snapshots and a tree record, with the drawn mark and without: what it is read as, its list, and what the main
-- call leaves in both areas.
-- With the right depth word it is sound, and with another it is not, and the finding stands in the buffer.
use Prim.Native.Nat.{ℕ}
use mathlib.Core.Bool.{Bool, true, false, cond}
use mathlib.Core.Path.{◌≡◌, refl}
use mathlib.Core.List.{List, [], ◌∷◌, ◌++◌}
use lib.ListN.{length}
use Rattle.bits.specs.Bits.{bit, bits_at, be_at, le_at}
use Rattle.findings.specs.Findings.{Finding, finding, bytes_of, encode, put}
use Rattle.book.specs.Book.{header_of, places_of, entry_at, data_type_of, table_from, key_head, key_end, keys_from, Book, book_of}
use Rattle.book.specs.Refusals.{refuse, ◌then◌, bad_rest, entry_verdict, table_verdict, key_verdict, keys_verdict, parts_verdict, header_verdict, book_verdict, Outcome, outcome_of, parse, refusal}
use Rattle.forest.specs.Forest.{ForestBook, Sound, Demand3}
use Rattle.rules.specs.Rules.{findings_of}
use Rattle.rules.proofs.Demand3.{demand_3}
use Rattle.rules.proofs.Examples.{book, forest_book, no_findings, sound, one_finding, unsound}
use Rattle.dockwrench.specs.declared.Checked.TheVariants as checked
use Rattle.std.specs.Prelude.{Ok, Err}
use Rattle.dockwrench.specs.Answers.{work_short, count_in, check_book, check_of, book_buffer, buffer_after, zeros, book_work, work_after}
use Rattle.dockwrench.specs.Decode.{decode}

-- THE BYTES

-- layout 1 and the trees mark, with the drawn mark or without, version 1,062, first bucket 0, 3 keys; device 0; 0 buckets; 2 parents or none,
-- 1 subvolume, no gens, no alloc
header : Bool → List ℕ
header drawn =
    cond drawn 0x1c 0x18 ∷ 0x00 ∷ 0x04 ∷ 0x26 ∷ 0x00 ∷ 0x00 ∷ 0x00 ∷ 0x03 ∷
    0x00 ∷ 0x00 ∷ 0x00 ∷ 0x00 ∷ 0x00 ∷ 0x00 ∷ 0x00 ∷ 0x00 ∷
    0x00 ∷ 0x00 ∷ 0x00 ∷ 0x00 ∷ 0x00 ∷ 0x00 ∷ 0x00 ∷ 0x00 ∷
    0x00 ∷ cond drawn 0x00 0x02 ∷ 0x00 ∷ 0x01 ∷ 0x00 ∷ 0x00 ∷ 0x00 ∷ 0x00 ∷ []

-- snapshot 1 has no parent, snapshot 2 has parent 1: where there is a table
parents : Bool → List ℕ
parents true = []
parents false =
    0x00 ∷ 0x00 ∷ 0x00 ∷ 0x01 ∷ 0x00 ∷ 0x00 ∷ 0x00 ∷ 0x00 ∷
    0x00 ∷ 0x00 ∷ 0x00 ∷ 0x02 ∷ 0x00 ∷ 0x00 ∷ 0x00 ∷ 0x01 ∷ []

-- subvolume 5 has snapshot 1
subvolumes : List ℕ
subvolumes = 0x00 ∷ 0x00 ∷ 0x00 ∷ 0x05 ∷ 0x00 ∷ 0x00 ∷ 0x00 ∷ 0x01 ∷ []

-- btree 9, type 22, 40 value bytes, offset 1; parent 0, child 2, tree 1, depth 0, skip word 1
upper : List ℕ
upper =
    0x09 ∷ 0x16 ∷ 0x05 ∷ 0x00 ∷ 0x00 ∷ 0x00 ∷ 0x00 ∷ 0x00 ∷
    0x00 ∷ 0x00 ∷ 0x00 ∷ 0x00 ∷ 0x00 ∷ 0x00 ∷ 0x00 ∷ 0x00 ∷
    0x00 ∷ 0x00 ∷ 0x00 ∷ 0x00 ∷ 0x00 ∷ 0x00 ∷ 0x00 ∷ 0x01 ∷ 0x00 ∷ 0x00 ∷ 0x00 ∷ 0x00 ∷
    0x00 ∷ 0x00 ∷ 0x00 ∷ 0x00 ∷ 0x00 ∷ 0x00 ∷ 0x00 ∷ 0x00 ∷
    0x02 ∷ 0x00 ∷ 0x00 ∷ 0x00 ∷ 0x00 ∷ 0x00 ∷ 0x00 ∷ 0x00 ∷
    0x00 ∷ 0x00 ∷ 0x00 ∷ 0x00 ∷ 0x01 ∷ 0x00 ∷ 0x00 ∷ 0x00 ∷
    0x00 ∷ 0x00 ∷ 0x00 ∷ 0x00 ∷ 0x01 ∷ 0x00 ∷ 0x00 ∷ 0x00 ∷
    0x00 ∷ 0x00 ∷ 0x00 ∷ 0x00 ∷ 0x00 ∷ 0x00 ∷ 0x00 ∷ 0x00 ∷ []

-- btree 15, type 31, 8 value bytes, offset 1; subvolume 5, root 1
tree : List ℕ
tree =
    0x0f ∷ 0x1f ∷ 0x01 ∷ 0x00 ∷ 0x00 ∷ 0x00 ∷ 0x00 ∷ 0x00 ∷
    0x00 ∷ 0x00 ∷ 0x00 ∷ 0x00 ∷ 0x00 ∷ 0x00 ∷ 0x00 ∷ 0x00 ∷
    0x00 ∷ 0x00 ∷ 0x00 ∷ 0x00 ∷ 0x00 ∷ 0x00 ∷ 0x00 ∷ 0x01 ∷ 0x00 ∷ 0x00 ∷ 0x00 ∷ 0x00 ∷
    0x05 ∷ 0x00 ∷ 0x00 ∷ 0x00 ∷ 0x01 ∷ 0x00 ∷ 0x00 ∷ 0x00 ∷ []

-- btree 9, type 22, 40 value bytes, offset 2; parent 1, no child, tree 1, this depth, skip word 1
lower : ℕ → List ℕ
lower depth =
    0x09 ∷ 0x16 ∷ 0x05 ∷ 0x00 ∷ 0x00 ∷ 0x00 ∷ 0x00 ∷ 0x00 ∷
    0x00 ∷ 0x00 ∷ 0x00 ∷ 0x00 ∷ 0x00 ∷ 0x00 ∷ 0x00 ∷ 0x00 ∷
    0x00 ∷ 0x00 ∷ 0x00 ∷ 0x00 ∷ 0x00 ∷ 0x00 ∷ 0x00 ∷ 0x02 ∷ 0x00 ∷ 0x00 ∷ 0x00 ∷ 0x00 ∷
    0x00 ∷ 0x00 ∷ 0x00 ∷ 0x00 ∷ 0x01 ∷ 0x00 ∷ 0x00 ∷ 0x00 ∷
    0x00 ∷ 0x00 ∷ 0x00 ∷ 0x00 ∷ 0x00 ∷ 0x00 ∷ 0x00 ∷ 0x00 ∷
    0x00 ∷ 0x00 ∷ 0x00 ∷ 0x00 ∷ 0x01 ∷ 0x00 ∷ 0x00 ∷ 0x00 ∷
    depth ∷ 0x00 ∷ 0x00 ∷ 0x00 ∷ 0x01 ∷ 0x00 ∷ 0x00 ∷ 0x00 ∷
    0x00 ∷ 0x00 ∷ 0x00 ∷ 0x00 ∷ 0x00 ∷ 0x00 ∷ 0x00 ∷ 0x00 ∷ []

-- the book with this depth of snapshot 2: 212 bytes with the drawn mark, 228 without
pub bytes : Bool → ℕ → List ℕ
bytes drawn depth = header drawn ++ (parents drawn ++ (subvolumes ++ (upper ++ (tree ++ lower depth))))

-- it is accepted, whatever the depth
pub accepted : (drawn : Bool) (depth : ℕ) → parse (bytes drawn depth) ≡ Outcome.accepted (book drawn 0 2 1 depth 1 1)
unfolding bytes header parents subvolumes upper tree lower book bit bits_at le_at refuse ◌then◌ header_of entry_at bad_rest entry_verdict table_verdict key_head key_end key_verdict keys_verdict places_of parts_verdict header_verdict book_verdict data_type_of table_from keys_from book_of outcome_of parse
accepted true depth = refl
accepted false depth = refl

-- THE MAIN CALL

-- what it answers for a book of this list, and leaves in the buffer and in the work area
answer_is : (s : List ℕ) (b : Book) (fs : List Finding) (room words : ℕ) → parse s ≡ Outcome.accepted b → findings_of b ≡ fs
    → check_of (parse s) room words ≡ cond (work_short b words) (Err (refusal 9 0)) (Ok (count_in room (length fs)))
unfolding check_of check_book
answer_is s b fs room words is list = rw (is, list)

buffer_is : (s : List ℕ) (b : Book) (fs : List Finding) (words : ℕ) (o : List ℕ) → parse s ≡ Outcome.accepted b → findings_of b ≡ fs
    → buffer_after (parse s) words o ≡ cond (work_short b words) o (put o fs)
unfolding buffer_after book_buffer
buffer_is s b fs words o is list = rw (is, list)

work_is : (s : List ℕ) (b : Book) (w : List ℕ) → parse s ≡ Outcome.accepted b → work_after (parse s) w ≡ book_work b w
unfolding work_after
work_is s b w is = rw is

-- a buffer of 20 bytes, and a work area of two words for each key
unfoldable pub buffer : List ℕ
buffer = 9 ∷ 9 ∷ 9 ∷ 9 ∷ 9 ∷ 9 ∷ 9 ∷ 9 ∷ 9 ∷ 9 ∷ 9 ∷ 9 ∷ 9 ∷ 9 ∷ 9 ∷ 9 ∷ 9 ∷ 9 ∷ 9 ∷ 9 ∷ []

unfoldable pub work : List ℕ
work = 7 ∷ 7 ∷ 7 ∷ 7 ∷ 7 ∷ 7 ∷ []

-- what is shown of bytes s: they are the forest book b; fs is its list, of which demand 3 holds; the call answers 0, leaves the buffer as in
-- `after`, where that list stands, and zeros the work area
pub record Shown (s : List ℕ) (b : Book) (fs : List Finding) (after : List ℕ) : Type 0 where
  pub reads : parse s ≡ Outcome.accepted b
  pub forest : ForestBook b
  pub list : findings_of b ≡ fs
  pub answer : check_of (parse s) (length buffer) (length work) ≡ Ok (checked.Found (length fs))
  pub buffer_left : buffer_after (parse s) (length work) buffer ≡ after
  pub work_left : work_after (parse s) work ≡ 0 ∷ 0 ∷ 0 ∷ 0 ∷ 0 ∷ 0 ∷ []
  pub decoded : decode (length fs) after ≡ fs
  pub demand : Demand3 b (findings_of b)

-- THE SOUND ONE, of depth 1: nothing is found, and the buffer is as it was

sound_answer : (drawn : Bool) → check_of (parse (bytes drawn 1)) (length buffer) (length work) ≡ Ok (checked.Found 0)
unfolding buffer work book work_short count_in
sound_answer drawn = answer_is (bytes drawn 1) (book drawn 0 2 1 1 1 1) [] 20 6 (accepted drawn 1) (no_findings drawn)

pub sound_shown : (drawn : Bool) → Shown (bytes drawn 1) (book drawn 0 2 1 1 1 1) [] buffer × Sound (book drawn 0 2 1 1 1 1)
unfolding buffer work book work_short put book_work zeros decode
sound_shown drawn = (
  record {
    reads = accepted drawn 1;
    forest = forest_book drawn 0 2 1 1 1 1;
    list = no_findings drawn;
    answer = sound_answer drawn;
    buffer_left = buffer_is (bytes drawn 1) (book drawn 0 2 1 1 1 1) [] 6 buffer (accepted drawn 1) (no_findings drawn);
    work_left = work_is (bytes drawn 1) (book drawn 0 2 1 1 1 1) work (accepted drawn 1);
    decoded = refl;
    demand = demand_3 (book drawn 0 2 1 1 1 1) (forest_book drawn 0 2 1 1 1 1);
  },
  sound drawn,
)

-- THE UNSOUND ONE, of depth 0: kind 42, snapshot 2 and its depth word, in 17 bytes; the last three are as they were

unfoldable pub buffer_of_42 : List ℕ
buffer_of_42 = 42 ∷ 0 ∷ 0 ∷ 0 ∷ 0 ∷ 0 ∷ 0 ∷ 0 ∷ 2 ∷ 0 ∷ 0 ∷ 0 ∷ 0 ∷ 0 ∷ 0 ∷ 0 ∷ 0 ∷ 9 ∷ 9 ∷ 9 ∷ []

unsound_answer : (drawn : Bool) → check_of (parse (bytes drawn 0)) (length buffer) (length work) ≡ Ok (checked.Found 1)
unfolding buffer work book work_short count_in
unsound_answer drawn = answer_is (bytes drawn 0) (book drawn 0 2 1 0 1 1) (finding 42 2 0 ∷ []) 20 6 (accepted drawn 0) (one_finding drawn)

pub unsound_shown : (drawn : Bool) → Shown (bytes drawn 0) (book drawn 0 2 1 0 1 1) (finding 42 2 0 ∷ []) buffer_of_42 × (Sound (book drawn 0 2 1 0 1 1) → ⊥)
unfolding buffer work buffer_of_42 book work_short bytes_of encode put book_work zeros be_at decode
unsound_shown drawn = (
  record {
    reads = accepted drawn 0;
    forest = forest_book drawn 0 2 1 0 1 1;
    list = one_finding drawn;
    answer = unsound_answer drawn;
    buffer_left = buffer_is (bytes drawn 0) (book drawn 0 2 1 0 1 1) (finding 42 2 0 ∷ []) 6 buffer (accepted drawn 0) (one_finding drawn);
    work_left = work_is (bytes drawn 0) (book drawn 0 2 1 0 1 1) work (accepted drawn 0);
    decoded = refl;
    demand = demand_3 (book drawn 0 2 1 0 1 1) (forest_book drawn 0 2 1 0 1 1);
  },
  unsound drawn,
)
