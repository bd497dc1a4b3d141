-- What the code computes of a value's words is what the rule asks of them.
use Prim.Native.Nat.{ℕ}
use mathlib.Core.Path.{◌≡◌, refl, ap, ◌∙◌}
use mathlib.Core.Bool.{Bool, true, false, cond, not, ◌&&◌, ◌||◌}
use mathlib.Core.List.{List, [], ◌++◌, append-nil}
use native.Mathlib.Omega.{arith}
use lib.ListN.{length}
use lib.Dec.{eqb, ltb, leb}
use borrow.Author.Tests.{le-ltb, lt-ltb, leb-true, leb-false, eqb-true, ne_eqb}
use Rattle.bits.specs.Bits.{le_at}
use Rattle.findings.specs.Findings.{finding, when, only}
use Rattle.book.specs.Book.{Bkey, is}
use Rattle.states.specs.declared.Nearest.{Nearest}
use Rattle.states.specs.StateDistance.{state_distance, snap_states, subvol_states}
use Rattle.states.specs.Steps.{word_or_zero}
use Rattle.walk.proofs.Sets.{both_true}
use Rattle.states.specs.CheckStateWords.{state_required, snap_state_word, snapshot_state, subvol_state_unset, subvolume_word, subvolume_state, check_state_words}

-- a snapshot's findings, from its word, the nearest state and the version's test
pub snapshot_findings : (version i : ℕ) (value : List ℕ) {w : ℕ} {n : Nearest} {required : Bool} → w ≡ word_or_zero value 56 → n ≡ state_distance w snap_states → required ≡ state_required version
    → when (ltb 0 n.distance && leb n.distance 2) (finding 23 i n.state) ++ when (ltb 2 n.distance && required) (finding 24 i 0) ≡ snapshot_state version i value
unfolding snapshot_state snap_state_word word_or_zero
snapshot_findings version i value w n r = rw (n, w, r)

-- a word's findings, likewise
pub word_findings : (version i word : ℕ) {n : Nearest} {required : Bool} → n ≡ state_distance word subvol_states → required ≡ state_required version → (word ≡ 0 → ⊥)
    → when (ltb 0 n.distance && leb n.distance 2) (finding 26 i n.state) ++ (when (ltb 6 n.distance) (finding 27 i 0) ++ when ((ltb 2 n.distance && leb n.distance 6) && required) (finding 25 i 0)) ≡ subvolume_word version i word
unfolding subvolume_word only
word_findings version i word n r set = rw (n, r, ne_eqb word 0 set)

pub no_word : (version i : ℕ) → [] ≡ subvolume_word version i 0
unfolding subvolume_word only
no_word version i = refl

-- a word that is missing reads as 0
unset_by : (b : Bool) (x : ℕ) {less : Bool} → less ≡ not b → eqb (cond b x 0) 0 ≡ less || eqb x 0
unset_by true x e = rw e
unset_by false x e = rw e

word_by : (version i : ℕ) (b : Bool) (x : ℕ) → subvolume_word version i (cond b x 0) ≡ only b (subvolume_word version i x)
unfolding subvolume_word only
word_by version i true x = refl
word_by version i false x = refl

pad_by : (b : Bool) (x : ℕ) → not (eqb (cond b x 0) 0) ≡ b && not (eqb x 0)
pad_by true x = refl
pad_by false x = refl

-- below is not at least
below_not : (a b : ℕ) → ltb b a ≡ not (leb a b)
below_not a b = by-test (leb a b) refl
  where
    by-test : (t : Bool) → leb a b ≡ t → ltb b a ≡ not (leb a b)
    by-test true e = rw e (le-ltb b a (leb-true a b e))
    by-test false e = rw e (lt-ltb b a (leb-false a b e))

pub unset : (value : List ℕ) {w : ℕ} → w ≡ word_or_zero value 40 → leb 16 (length value) && eqb w 0 ≡ subvol_state_unset value
unfolding subvol_state_unset word_or_zero
unset value e = ap (λ (t : Bool). leb 16 (length value) && t) (ap (λ (w : ℕ). eqb w 0) e ∙ unset_by (leb 44 (length value)) (le_at value 40 4) (below_not 44 (length value)))

-- a subvolume's findings, from its two words
pub subvolume_findings : (version i : ℕ) (value : List ℕ) {w p : ℕ} → w ≡ word_or_zero value 40 → p ≡ word_or_zero value 44
    → when (state_required version && subvol_state_unset value) (finding 25 i 0) ++ (subvolume_word version i w ++ when (not (eqb p 0)) (finding 28 i 0)) ≡ subvolume_state version i value
unfolding subvolume_state word_or_zero
subvolume_findings version i value w p =
    rw (w, p, word_by version i (leb 44 (length value)) (le_at value 40 4), pad_by (leb 48 (length value)) (le_at value 44 4))

-- a key is a snapshot or a subvolume or neither
snapshot_only : (k : Bkey) → is 9 22 k ≡ true → is 8 21 k ≡ false
unfolding is
snapshot_only k e =
    let nine = eqb-true k.btree 9 (both_true _ _ e).0 in
    rw (ne_eqb k.btree 8 (λ eight. absurd (omega arith)))

module _ (version i : ℕ) (k : Bkey) where
  pub of_snapshot : is 9 22 k && leb 24 (length k.value) ≡ true → snapshot_state version i k.value ≡ check_state_words version i k
  unfolding check_state_words only
  of_snapshot e = rw (e, snapshot_only k (both_true _ _ e).0, append-nil)

  pub of_subvolume : is 9 22 k && leb 24 (length k.value) ≡ false → is 8 21 k ≡ true → subvolume_state version i k.value ≡ check_state_words version i k
  unfolding check_state_words only
  of_subvolume e h = rw (e, h)

  pub of_neither : is 9 22 k && leb 24 (length k.value) ≡ false → is 8 21 k ≡ false → [] ≡ check_state_words version i k
  unfolding check_state_words only
  of_neither e h = rw (e, h)
