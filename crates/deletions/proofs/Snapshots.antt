-- The three sets that the code looks up are those that the rule asks for.
use Prim.Native.Nat.{ℕ, ◌/◌, ◌^◌, ◌≤◌}
use mathlib.Core.Path.{◌≡◌, refl, sym, ap₂, ◌∙◌}
use mathlib.Core.Bool.{Bool, true, false, true≢false, cond, not, ◌&&◌}
use mathlib.Core.List.{List, [], ◌∷◌, ◌++◌}
use native.Mathlib.Omega.{arith}
use lib.ListN.{length}
use lib.Dec.{eqb, leb}
use borrow.Author.Tests.{eq-eqb, ne_eqb}
use Rattle.bits.specs.Bits.{le_at}
use Rattle.findings.specs.Findings.{finding, when, only, each, bytes_of}
use Rattle.pairs.specs.Pairs.{pair, sort, has}
use Rattle.pairs.proofs.Order.{both_true}
use Rattle.pairs.proofs.Bounds.{has_sort}
use Rattle.book.specs.Book.{Bkey, Book, is, keys_from}
use Rattle.book.specs.Walk.{KeysFit}
use Rattle.states.specs.StateDistance.{snap_live, snap_will_delete, subvol_live}
use Rattle.deletions.specs.SnapshotStates.{has_snap_state, snap_state, live_snapshot, live_subvolume, accounted_id, accounted, live_child, subvolume_is_live, snapshot_state_findings, snapshot_states}
use Rattle.walk.specs.Keys.{gather, any_key}
use Rattle.subvolumes.specs.SubvolumeStates.{is_live_snapshot}
use Rattle.deletions.specs.Steps.{is_live_subvolume, is_accounted, set_pair, will_delete, deleting, has_data, set_findings}
use Rattle.walk.proofs.Sets.{aside, has_nil, has_same, has_other, other_btree, any_by}
use Rattle.findings.proofs.Walk.{each_same}

-- which of a key's three pairs it gives
module _ (h : List ℕ → Bool) (none : h [] ≡ false) where
  first_by : (a b c e : Bool) {x y z : ℕ} → h (x ∷ []) ≡ e → h (y ∷ []) ≡ false → h (z ∷ []) ≡ false
      → h (cond a (x ∷ []) (cond b (y ∷ []) (cond c (z ∷ []) []))) ≡ a && e
  first_by true b c e hx hy hz = hx
  first_by false true c e hx hy hz = hy
  first_by false false true e hx hy hz = hz
  first_by false false false e hx hy hz = none

  second_by : (a b c e : Bool) {x y z : ℕ} → (a ≡ true → b ≡ false) → h (x ∷ []) ≡ false → h (y ∷ []) ≡ e → h (z ∷ []) ≡ false
      → h (cond a (x ∷ []) (cond b (y ∷ []) (cond c (z ∷ []) []))) ≡ b && e
  second_by true true c e d hx hy hz = absurd (true≢false (d refl))
  second_by true false c e d hx hy hz = hx
  second_by false true c e d hx hy hz = hy
  second_by false false true e d hx hy hz = hz
  second_by false false false e d hx hy hz = none

  third_by : (a b c e : Bool) {x y z : ℕ} → (a ≡ true → c ≡ false) → (b ≡ true → c ≡ false) → h (x ∷ []) ≡ false → h (y ∷ []) ≡ false → h (z ∷ []) ≡ e
      → h (cond a (x ∷ []) (cond b (y ∷ []) (cond c (z ∷ []) []))) ≡ c && e
  third_by true b true e d g hx hy hz = absurd (true≢false (d refl))
  third_by true b false e d g hx hy hz = hx
  third_by false true true e d g hx hy hz = absurd (true≢false (g refl))
  third_by false true false e d g hx hy hz = hy
  third_by false false true e d g hx hy hz = hz
  third_by false false false e d g hx hy hz = none

btree_of : (b t : ℕ) (k : Bkey) (l m : Bool) → (is b t k && l) && m ≡ true → is b t k ≡ true
btree_of b t k l m e = (both_true (is b t k) l (both_true (is b t k && l) m e).0).0

not_subvolume : (k : Bkey) → is_live_snapshot k ≡ true → is_live_subvolume k ≡ false
unfolding is_live_snapshot is_live_subvolume
not_subvolume k e = rw (other_btree k 9 22 8 21 (omega arith) (btree_of 9 22 k (leb 60 (length k.value)) (eqb (le_at k.value 56 4) snap_live) e))

not_accounted : (k : Bkey) → is_live_snapshot k ≡ true → is_accounted k ≡ false
unfolding is_live_snapshot is_accounted
not_accounted k e = rw (other_btree k 9 22 20 34 (omega arith) (btree_of 9 22 k (leb 60 (length k.value)) (eqb (le_at k.value 56 4) snap_live) e))

not_accounted_either : (k : Bkey) → is_live_subvolume k ≡ true → is_accounted k ≡ false
unfolding is_live_subvolume is_accounted
not_accounted_either k e = rw (other_btree k 8 21 20 34 (omega arith) (btree_of 8 21 k (leb 44 (length k.value)) (eqb (le_at k.value 40 4) subvol_live) e))

-- ---- one key

module _ (id p : ℕ) (k : Bkey) where
  live_key : has (pair id 0) (set_pair p k) ≡ live_snapshot id k
  unfolding set_pair live_snapshot is_live_snapshot has_snap_state snap_state pair
  live_key =
      first_by (has (pair id 0)) (has_nil (pair id 0)) (is_live_snapshot k) (is_live_subvolume k) (is_accounted k) (eqb k.offset id)
      (has_same id k.offset 0) (has_other id k.offset 0 1 (λ e. omega arith)) (has_other id (accounted_id k) 0 2 (λ e. omega arith))
      ∙ aside (is 9 22 k && leb 60 (length k.value)) (eqb (le_at k.value 56 4) snap_live) (eqb k.offset id)

  subvolume_key : has (pair id 1) (set_pair p k) ≡ live_subvolume id k
  unfolding set_pair live_subvolume is_live_subvolume pair
  subvolume_key =
      second_by (has (pair id 1)) (has_nil (pair id 1)) (is_live_snapshot k) (is_live_subvolume k) (is_accounted k) (eqb k.offset id) (not_subvolume k)
      (has_other id k.offset 1 0 (λ e. omega arith)) (has_same id k.offset 1) (has_other id (accounted_id k) 1 2 (λ e. omega arith))
      ∙ aside (is 8 21 k && leb 44 (length k.value)) (eqb (le_at k.value 40 4) subvol_live) (eqb k.offset id)

  accounted_key : has (pair id 2) (set_pair p k) ≡ accounted id k
  unfolding set_pair accounted is_accounted pair
  accounted_key =
      third_by (has (pair id 2)) (has_nil (pair id 2)) (is_live_snapshot k) (is_live_subvolume k) (is_accounted k) (eqb (accounted_id k) id) (not_accounted k) (not_accounted_either k)
      (has_other id k.offset 2 0 (λ e. omega arith)) (has_other id k.offset 2 1 (λ e. omega arith)) (has_same id (accounted_id k) 2)
      ∙ aside (is 20 34 k && eqb (k.inode / 2 ^ 56) 5) (leb 8 (length k.value) && not (eqb (le_at k.value 0 8) 0)) (eqb (accounted_id k) id)

-- ---- all keys

-- the sets, sorted, say of every key what the rule says
pub sets_all : (b : Book) (s : List ℕ) (n p : ℕ) {xs : List ℕ} → length s ≤ 1048576 → KeysFit s n p → b.keys ≡ keys_from s n p → xs ≡ sort (gather set_pair s n p) → each (λ _ k. set_findings xs k) 0 b.keys ≡ snapshot_states b
unfolding set_findings deleting has_data will_delete snapshot_state_findings snapshot_states live_child subvolume_is_live
sets_all b s n p {xs} few fit keys sorted =
    let live : (id : ℕ) → has (pair id 0) xs ≡ any_key (live_snapshot id) b.keys = λ id. rw (sorted, has_sort, keys) (any_by (pair id 0) set_pair (live_snapshot id) s few (λ p k l. live_key id p k) n p fit) in
    let subvolume : (id : ℕ) → has (pair id 1) xs ≡ any_key (live_subvolume id) b.keys = λ id. rw (sorted, has_sort, keys) (any_by (pair id 1) set_pair (live_subvolume id) s few (λ p k l. subvolume_key id p k) n p fit) in
    let counted : (id : ℕ) → has (pair id 2) xs ≡ any_key (accounted id) b.keys = λ id. rw (sorted, has_sort, keys) (any_by (pair id 2) set_pair (accounted id) s few (λ p k l. accounted_key id p k) n p fit) in
    each_same (set_findings xs) (λ k. only (has_snap_state k && leb k.offset 4294967295) (snapshot_state_findings b k))
    (λ k. rw (subvolume (le_at k.value 16 4), live (le_at k.value 8 4), live (le_at k.value 12 4), counted k.offset))
    0 b.keys

-- ---- what the code computes of a key

module _ (k : Bkey) {i w : ℕ} (inode : i ≡ k.inode) (word : w ≡ le_at k.value 0 8) where
  pub accounted_yes : is 20 34 k && leb 8 (length k.value) ≡ true → eqb (i / 2 ^ 56) 5 && not (eqb w 0) ≡ is_accounted k
  unfolding is_accounted
  accounted_yes e =
      ap₂ (λ (i w : ℕ). eqb (i / 2 ^ 56) 5 && not (eqb w 0)) inode word
      ∙ both (is 20 34 k) (leb 8 (length k.value)) (eqb (k.inode / 2 ^ 56) 5) (not (eqb (le_at k.value 0 8) 0)) e
    where
      both : (a b c d : Bool) → a && b ≡ true → c && d ≡ (a && c) && (b && d)
      both true true c d e = refl
      both true false c d e = absurd (true≢false (sym e))
      both false b c d e = absurd (true≢false (sym e))

pub accounted_no : (k : Bkey) → is 20 34 k && leb 8 (length k.value) ≡ false → false ≡ is_accounted k
unfolding is_accounted
accounted_no k e = neither (is 20 34 k) (leb 8 (length k.value)) (eqb (k.inode / 2 ^ 56) 5) (not (eqb (le_at k.value 0 8) 0)) e
  where
    neither : (a b c d : Bool) → a && b ≡ false → false ≡ (a && c) && (b && d)
    neither true true c d e = absurd (true≢false e)
    neither true false true d e = refl
    neither true false false d e = refl
    neither false b c d e = refl

-- the pair that a key gives
module _ (p : ℕ) (k : Bkey) where
  pub set_snapshot : is_live_snapshot k ≡ true → {o : ℕ} → o ≡ k.offset → pair o 0 ∷ [] ≡ set_pair p k
  unfolding set_pair
  set_snapshot e o = rw (e, o)

  pub set_subvolume : is_live_snapshot k ≡ false → is_live_subvolume k ≡ true → {o : ℕ} → o ≡ k.offset → pair o 1 ∷ [] ≡ set_pair p k
  unfolding set_pair
  set_subvolume e h o = rw (e, h, o)

  pub set_accounted : is_live_snapshot k ≡ false → is_live_subvolume k ≡ false → is_accounted k ≡ true → {i o : ℕ} → i ≡ k.inode → o ≡ le_at (bytes_of 8 i) 1 4 → pair o 2 ∷ [] ≡ set_pair p k
  unfolding set_pair accounted_id
  set_accounted e h a i o = rw (e, h, a, o, i)

  pub set_none : is_live_snapshot k ≡ false → is_live_subvolume k ≡ false → is_accounted k ≡ false → [] ≡ set_pair p k
  unfolding set_pair
  set_none e h a = rw (e, h, a)

-- the findings of a key
module _ (xs : List ℕ) (k : Bkey) where
  pub will_findings : {o : ℕ} {a b c : Bool} → a ≡ has (pair (le_at k.value 16 4) 1) xs → b ≡ has (pair (le_at k.value 8 4) 0) xs → c ≡ has (pair (le_at k.value 12 4) 0) xs
      → o ≡ k.offset → when a (finding 33 o 0) ++ when (not a && (b && c)) (finding 34 o 0) ≡ will_delete xs k
  unfolding will_delete
  will_findings a b c o = rw (a, b, c, o)

  module _ {st : ℕ} (state : st ≡ le_at k.value 56 4) where
    pub deleting_yes : st ≡ snap_will_delete → will_delete xs k ≡ deleting xs k
    unfolding deleting only snap_state
    deleting_yes e = rw (← state, eq-eqb st snap_will_delete e)

    pub deleting_no : (st ≡ snap_will_delete → ⊥) → deleting xs k ≡ []
    unfolding deleting only snap_state
    deleting_no d = rw (← state, ne_eqb st snap_will_delete d)

  pub sets_yes : has_snap_state k && leb k.offset 4294967295 ≡ true → deleting xs k ++ has_data xs k ≡ set_findings xs k
  unfolding set_findings only
  sets_yes e = rw e

  pub sets_no : has_snap_state k && leb k.offset 4294967295 ≡ false → set_findings xs k ≡ []
  unfolding set_findings only
  sets_no e = rw e
