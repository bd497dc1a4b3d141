-- Document 01's examples of subvolume states, as one table: 0x4ad5447d gives 26, with the state that it was meant to be; 0x4ad54479 nothing at 1,062 and 25 at
-- 1,063; 0x4ad54441 is six bits off; 0x4ad54401 gives 27. And the first of two states that are equally near, which neither list of document 01 has.
use Prim.Native.Nat.{ℕ}
use mathlib.Core.Path.{◌≡◌, refl}
use mathlib.Core.List.{List, [], ◌∷◌, ◌++◌, map}
use lib.ListN.{replicate}
use Rattle.bits.specs.Bits.{le_at}
use Rattle.findings.specs.Findings.{Finding, finding, when, only}
use Rattle.book.specs.Book.{Bkey, is}
use Rattle.states.specs.StateDistance.{bits_apart, nearer, state_distance, subvol_live, subvol_states}
use Rattle.states.specs.CheckStateWords.{state_required, subvol_state_unset, subvolume_word, subvolume_state, check_state_words}

-- a subvolume whose state is 0x4ad54400 and this low byte
subvolume : ℕ → Bkey
subvolume low = record {
  btree = 8;
  key_type = 21;
  size = 0;
  inode = 0;
  offset = 1;
  snapshot = 0;
  value = replicate 40 0 ++ (low ∷ 0x44 ∷ 0xd5 ∷ 0x4a ∷ []);
}

-- version and low byte
rows : List (ℕ × ℕ)
rows = (1062, 0x7d) ∷ (1063, 0x7d) ∷ (1062, 0x79) ∷ (1063, 0x79) ∷ (1062, 0x41) ∷ (1063, 0x41) ∷ (1062, 0x01) ∷ (1063, 0x01) ∷ []

-- the distance and the findings of key 5
judged : ℕ × ℕ → ℕ × List Finding
judged row = ((state_distance (le_at (subvolume row.1).value 40 4) subvol_states).distance, check_state_words row.0 5 (subvolume row.1))

examples : map judged rows ≡
    (2, finding 26 5 subvol_live ∷ []) ∷
    (2, finding 26 5 subvol_live ∷ []) ∷
    (3, []) ∷
    (3, finding 25 5 0 ∷ []) ∷
    (6, []) ∷
    (6, finding 25 5 0 ∷ []) ∷
    (7, finding 27 5 0 ∷ []) ∷
    (7, finding 27 5 0 ∷ []) ∷
    []
unfolding subvolume rows judged le_at when only is bits_apart nearer state_distance subvol_states state_required subvol_state_unset subvolume_word subvolume_state check_state_words
examples = refl

-- 0 is one bit off 1, 2 and 4
first_of_equals : map (state_distance 0) ((1 ∷ 2 ∷ []) ∷ (2 ∷ 1 ∷ []) ∷ (3 ∷ 4 ∷ 1 ∷ 7 ∷ []) ∷ []) ≡
    record { distance = 1; state = 1 } ∷ record { distance = 1; state = 2 } ∷ record { distance = 1; state = 4 } ∷ []
unfolding bits_apart nearer state_distance
first_of_equals = refl

-- a word that is as far as it can be from the only state names it, and not the 0 of an empty list
farthest : state_distance 0xfffffffe (1 ∷ []) ≡ record { distance = 32; state = 1 }
unfolding bits_apart nearer state_distance
farthest = refl
