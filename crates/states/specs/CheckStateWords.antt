-- The rule `check_state_words` (document 01, "Leaves: words and runs", kinds 23 to 28). Subject is the key's index; object is 0, but kinds 23 and 26 "carry
-- that state word as object" (document 02, ticket 1): the nearest state's.
use Rattle.std.specs.Prelude.{ℕ, Bool, cond, not, ◌&&◌, ◌||◌, List, ◌++◌, length, eqb, ltb, leb}
use Rattle.bits.specs.Bits.{le_at}
use Rattle.findings.specs.Findings.{Finding, finding, when, only}
use Rattle.book.specs.Book.{Bkey, is}
use Rattle.states.specs.StateDistance.{state_distance, snap_states, subvol_states}

-- "from version 1,063 (1.39) on": states must be set
unfoldable pub state_required : ℕ → Bool
state_required version = leb 1063 version

-- a snapshot's state word, at 56: "a missing word is 0"
unfoldable pub snap_state_word : List ℕ → ℕ
snap_state_word value = cond (leb 60 (length value)) (le_at value 56 4) 0

-- "Snapshot values of 24 bytes or more: 0 nothing, 1 or 2 kind 23, more kind 24 from version 1,063 (1.39) on":
-- 23 snapshot_state_bitflip, 24 snapshot_state_bad
unfoldable pub snapshot_state : ℕ → ℕ → List ℕ → List Finding
snapshot_state version i value =
    let nearest = state_distance (snap_state_word value) snap_states in
    let d = nearest.distance in
    when (ltb 0 d && leb d 2) (finding 23 i nearest.state) ++ when (ltb 2 d && state_required version) (finding 24 i 0)

-- "from 1,063, values of 16 bytes or more without a state or with 0 give 25"
unfoldable pub subvol_state_unset : List ℕ → Bool
subvol_state_unset value = leb 16 (length value) && (ltb (length value) 44 || eqb (le_at value 40 4) 0)

-- "Subvolume: 0 or word 0 nothing, 1 or 2 kind 26, 3 to 6 kind 25 from 1,063, over 6 kind 27":
-- 26 subvol_state_bitflip, 27 subvol_state_invalid, 25 subvol_state_bad
unfoldable pub subvolume_word : ℕ → ℕ → ℕ → List Finding
subvolume_word version i word =
    let nearest = state_distance word subvol_states in
    let d = nearest.distance in
    only (not (eqb word 0))
    (when (ltb 0 d && leb d 2) (finding 26 i nearest.state)
    ++ (when (ltb 6 d) (finding 27 i 0) ++ when ((ltb 2 d && leb d 6) && state_required version) (finding 25 i 0)))

-- 25 for an unset state, then what the state word at 40 gives, then 28 subvol_pad_nonzero for the pad word at 44
unfoldable pub subvolume_state : ℕ → ℕ → List ℕ → List Finding
subvolume_state version i value =
    when (state_required version && subvol_state_unset value) (finding 25 i 0)
    ++ (only (leb 44 (length value)) (subvolume_word version i (le_at value 40 4))
    ++ when (leb 48 (length value) && not (eqb (le_at value 44 4) 0)) (finding 28 i 0))

-- snapshots (btree 9, type 22) of 24 bytes or more, and subvolumes (8, 21)
unfoldable pub check_state_words : ℕ → ℕ → Bkey → List Finding
check_state_words version i k =
    only (is 9 22 k && leb 24 (length k.value)) (snapshot_state version i k.value)
    ++ only (is 8 21 k) (subvolume_state version i k.value)
