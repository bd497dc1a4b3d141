-- What the main call and the two questions answer, and what the main call leaves in the two areas it is lent (document 01, "The entry").
-- Checked and Availability are those that src/lib.rt declares.
use Rattle.std.specs.Prelude.{ℕ, ◌+◌, ◌*◌, ◌/◌, ◌%◌, ◌^◌, Bool, true, false, cond, List, length, replicate, ltb, None, Option, Some, Result, Ok, Err}
use Rattle.findings.specs.Findings.{put}
use Rattle.book.specs.Book.{Book}
use Rattle.book.specs.KeyMaps.{parents_of}
use Rattle.book.specs.declared.refusal.Refusal.{Refusal}
use Rattle.book.specs.Refusals.{Outcome, refusal}
use Rattle.parents.specs.declared.Root.{Root}
use Rattle.parents.specs.Chains.{root_answer}
use Rattle.parents.specs.Roots.{root_of}
use Rattle.subvolumes.specs.SubvolumeStates.{is_unavailable}
use Rattle.rules.specs.Rules.{findings_of}
use Rattle.dockwrench.specs.declared.Checked.{Checked}
use Rattle.dockwrench.specs.declared.Checked.TheVariants as checked
use Rattle.dockwrench.specs.declared.Availability.{Availability}
use Rattle.dockwrench.specs.declared.Availability.TheVariants as availability

-- THE MAIN CALL, by what the bytes are as a book

-- 9, "work area short": the words are "at least two per key"
unfoldable pub work_short : Book → ℕ → Bool
work_short b words = ltb words (2 * b.header.keys)

-- over a buffer of `room` bytes: 10, "findings exceed the buffer", with the full count, or the count
unfoldable pub count_in : ℕ → ℕ → Checked
count_in room count = cond (ltb room (17 * count)) (checked.NoRoom count) (checked.Found count)

-- 9 for a work area of `words` words that is short, or the count
unfoldable pub check_book : Book → ℕ → ℕ → Result Checked Refusal
check_book b room words = cond (work_short b words) (Err (refusal 9 0)) (Ok (count_in room (length (findings_of b))))

-- the answer of the main call
unfoldable pub check_of : Outcome → ℕ → ℕ → Result Checked Refusal
check_of (Outcome.accepted b) room words = check_book b room words
check_of (Outcome.refused number place) room words = Err (refusal number place)

-- the buffer of an accepted book: untouched where the work area is short, else "the whole findings that fit, from the first, other bytes untouched"
unfoldable pub book_buffer : Book → ℕ → List ℕ → List ℕ
book_buffer b words buffer = cond (work_short b words) buffer (put buffer (findings_of b))

-- the buffer after the main call: untouched by refusals 1 to 9
unfoldable pub buffer_after : Outcome → ℕ → List ℕ → List ℕ
buffer_after (Outcome.accepted b) words buffer = book_buffer b words buffer
buffer_after (Outcome.refused number place) words buffer = buffer

-- n zeros: "every work word zero"
unfoldable pub zeros : ℕ → List ℕ
zeros n = replicate n 0

-- the work area of an accepted book: untouched where it is short, else all zeros
unfoldable pub book_work : Book → List ℕ → List ℕ
book_work b work = cond (work_short b (length work)) work (zeros (length work))

-- the work area after the main call: untouched by refusals 1 to 9
unfoldable pub work_after : Outcome → List ℕ → List ℕ
work_after (Outcome.accepted b) work = book_work b work
work_after (Outcome.refused number place) work = work

-- THE QUESTIONS

-- "The ancestor question answers the root and the number of parent links followed, or 11 with zeros"; "refuse by 1 to 8 with the same
-- place"; "The questions give" 12 "too", and so 13
unfoldable pub ancestor_of : Outcome → ℕ → Result (Option Root) Refusal
ancestor_of (Outcome.accepted b) id = Ok (root_answer (root_of (parents_of b) id))
ancestor_of (Outcome.refused number place) id = Err (refusal number place)

-- "The availability question answers whether the id is in the set that `subvolume_states` returns"
unfoldable pub availability_by : Bool → Availability
availability_by true = availability.Unavailable
availability_by false = availability.Available

-- the answer of the availability question, likewise
unfoldable pub availability_of : Outcome → ℕ → Result Availability Refusal
availability_of (Outcome.accepted b) id = Ok (availability_by (is_unavailable id b.keys))
availability_of (Outcome.refused number place) id = Err (refusal number place)

-- DOCUMENT 01'S NUMBERS

-- an answer: document 01's number; the place, or the links of an ancestor; the count, the root, or 1 for yes
pub record Answer : Type 0 where
  pub number : ℕ
  pub place : ℕ
  pub count : ℕ

-- of the main call: "Answer 0: place 0, count of findings"; "Refusal 10 returns the full count"; "Refusals 1 to 9: count 0"
unfoldable pub checked_answer : Result Checked Refusal → Answer
checked_answer (Ok (checked.Found count)) = record { number = 0; place = 0; count = count }
checked_answer (Ok (checked.NoRoom count)) = record { number = 10; place = 0; count = count }
checked_answer (Err r) = record { number = r.number; place = r.place; count = 0 }

-- of the ancestor question: "or 11 with zeros"
unfoldable pub ancestor_answer : Result (Option Root) Refusal → Answer
ancestor_answer (Ok (Some found)) = record { number = 0; place = found.links; count = found.root }
ancestor_answer (Ok None) = record { number = 11; place = 0; count = 0 }
ancestor_answer (Err r) = record { number = r.number; place = r.place; count = 0 }

-- of the availability question: 1 for an id in the set
unfoldable pub availability_answer : Result Availability Refusal → Answer
availability_answer (Ok availability.Unavailable) = record { number = 0; place = 0; count = 1 }
availability_answer (Ok availability.Available) = record { number = 0; place = 0; count = 0 }
availability_answer (Err r) = record { number = r.number; place = r.place; count = 0 }

-- an answer for C as one number: 8 bits, 24 bits, 32 bits
unfoldable pub packed : Answer → ℕ
packed a = a.number * 2 ^ 56 + a.place * 2 ^ 32 + a.count

-- and taken apart again
unfoldable pub unpacked : ℕ → Answer
unpacked x = record { number = x / 2 ^ 56; place = x / 2 ^ 32 % 2 ^ 24; count = x % 2 ^ 32 }
