-- The groups of sorted pairs give the findings of the keys that are in them, so what they say of a subvolume is what the rule says.
use Prim.Native.Nat.{ℕ, zero, suc, ◌+◌, ◌*◌, ◌/◌, ◌%◌, ◌^◌, ◌≤◌, ◌<◌}
use mathlib.Core.Path.{◌≡◌, refl, sym, ap, ap₂, ◌∙◌}
use mathlib.Core.Bool.{Bool, true, false, cond, ◌&&◌, ◌||◌, and-true, and-false}
use mathlib.Core.List.{List, [], ◌∷◌, ◌++◌, append-nil}
use native.Mathlib.Nat.{le_refl, le_trans, not-suc-le-zero}
use native.Mathlib.Omega.{arith}
use lib.ListN.{length, get_or}
use lib.Dec.{eqb, leb}
use borrow.Author.Tests.{eq-eqb, ne_eqb, leb-true, eqb-true}
use Rattle.bits.specs.Bits.{le_at}
use Rattle.findings.specs.Findings.{Finding, finding, when, only, each, keep}
use Rattle.findings.proofs.Walk.{each_any, each_keep, each_same}
use Rattle.pairs.specs.Pairs.{pair, pairs_of, sort, Sorted}
use Rattle.pairs.specs.Counts.{count, Permuted}
use Rattle.pairs.proofs.Order.{both_true, both_false, same_or_not, there, sorted_tail, sorted_cons, sort_sorted, sort_permuted, sorted_by}
use Rattle.pairs.proofs.Words.{pair_first, pair_second, length_pairs, second}
use Rattle.book.specs.Book.{Bkey, Book, is, key_end, keys_from}
use Rattle.book.specs.Walk.{KeysFit}
use Rattle.book.proofs.Laws.{key_end_lem}
use Rattle.book.proofs.Walk.{parts}
use Rattle.subvolumes.specs.declared.grouped.States.{States}
use Rattle.maps.proofs.Pairs.{keep_sort}
use Rattle.maps.proofs.Last.{sorted_from}
use Rattle.states.specs.StateDistance.{snap_live, subvol_unlinked, subvol_deleted}
use Rattle.subvolumes.specs.SubvolumeStates.{is_live_snapshot, has_subvol_state, subvol_state, unavailable, live_snapshot_of, tree_of_subvolume, subvolume_findings, subvolume_states}
use Rattle.walk.specs.Keys.{key_at, gather, any_key}
use Rattle.subvolumes.specs.Steps.{is_tree, in_group, group_of, state_pair, group_findings, judged}
use Rattle.subvolumes.proofs.Groups.{Words, group_append, group_nil, group_pair}

-- ---- a group, key after key

-- ids doubled
even_same : (w id : ℕ) → eqb (2 * w) (2 * id) ≡ eqb w id
even_same w id = same_or_not w id
    (λ e. eq-eqb (2 * w) (2 * id) (omega arith) ∙ sym (eq-eqb w id e))
    (λ d. ne_eqb (2 * w) (2 * id) (λ e. d (omega arith)) ∙ sym (ne_eqb w id d))

odd_same : (w id : ℕ) → eqb (2 * w + 1) (2 * id + 1) ≡ eqb w id
odd_same w id = same_or_not w id
    (λ e. eq-eqb (2 * w + 1) (2 * id + 1) (omega arith) ∙ sym (eq-eqb w id e))
    (λ d. ne_eqb (2 * w + 1) (2 * id + 1) (λ e. d (omega arith)) ∙ sym (ne_eqb w id d))

-- a key is in an even group where it is a live snapshot, in an odd one where it is a tree record
snapshot_by : (a l t : Bool) (w v id : ℕ) → ((a && l) || t) && eqb (cond (a && l) (2 * w) (2 * v + 1)) (2 * id) ≡ a && (eqb w id && l)
snapshot_by true true t w v id = even_same w id ∙ sym (and-true (eqb w id))
snapshot_by true false t w v id = ap (λ (b : Bool). t && b) (ne_eqb (2 * v + 1) (2 * id) (omega arith)) ∙ and-false t ∙ sym (and-false (eqb w id))
snapshot_by false l t w v id = ap (λ (b : Bool). t && b) (ne_eqb (2 * v + 1) (2 * id) (omega arith)) ∙ and-false t

tree_by : (a t : Bool) (w v id : ℕ) → (a ≡ true → t ≡ false) → (a || t) && eqb (cond a (2 * w) (2 * v + 1)) (2 * id + 1) ≡ t && eqb v id
tree_by true t w v id d = rw (d refl) (ne_eqb (2 * w) (2 * id + 1) (omega arith))
tree_by false t w v id d = ap (λ (b : Bool). t && b) (odd_same v id)

-- a live snapshot is no tree record
not_both : (k : Bkey) → is_live_snapshot k ≡ true → is_tree k ≡ false
unfolding is_live_snapshot is_tree is
not_both k e =
    let long = (both_true _ (eqb (le_at k.value 56 4) snap_live) e).0 in
    let nine = eqb-true k.btree 9 (both_true _ (eqb k.key_type 22) (both_true _ (leb 60 (length k.value)) long).0).0 in
    rw (ne_eqb k.btree 15 (λ other. absurd (omega arith)))

snapshot_key : (id : ℕ) (k : Bkey) → in_group k && eqb (group_of k) (2 * id) ≡ live_snapshot_of id k
unfolding in_group group_of is_live_snapshot live_snapshot_of
snapshot_key id k =
    snapshot_by (is 9 22 k && leb 60 (length k.value)) (eqb (le_at k.value 56 4) snap_live) (is_tree k)
    (le_at k.value 16 4) (le_at k.value 0 4) id

tree_key : (id : ℕ) (k : Bkey) → in_group k && eqb (group_of k) (2 * id + 1) ≡ tree_of_subvolume id k
unfolding in_group group_of is_tree tree_of_subvolume
tree_key id k = tree_by (is_live_snapshot k) (is_tree k) (le_at k.value 16 4) (le_at k.value 0 4) id (not_both k)

-- ---- the pairs that the keys from byte p on give: each has the place of a key, in a group the places rise

-- a pair of a group
abbrev of_group : ℕ → ℕ → Bool
of_group group x = eqb (x / 2 ^ 64) group

module _ (s : List ℕ) (small : length s ≤ 1048576) where
  near : (n p : ℕ) → KeysFit s (suc n) p → p + 28 ≤ length s
  unfolding KeysFit
  near n p fit = omega (arith, key_end_lem s p, fit.0)

  all_heads : (n p : ℕ) → KeysFit s n p → (y : ℕ) → 0 < count y (gather state_pair s n p) → y % 2 ^ 64 + 28 ≤ length s
  unfolding KeysFit gather state_pair count
  all_heads zero p fit y h = absurd (not-suc-le-zero h)
  all_heads (suc n) p fit y h = by (in_group (key_at s p)) h (all_heads n (key_end s p) fit.1 y)
    where
      by : (t : Bool) → 0 < count y (cond t (pair (group_of (key_at s p)) p ∷ []) [] ++ gather state_pair s n (key_end s p))
          → (0 < count y (gather state_pair s n (key_end s p)) → y % 2 ^ 64 + 28 ≤ length s) → y % 2 ^ 64 + 28 ≤ length s
      by true h later = same_or_not y (pair (group_of (key_at s p)) p)
          (λ e. rw (e, pair_second (group_of (key_at s p)) p (omega (arith, near n p fit))) (near n p fit))
          (λ d. let other = rw (ne_eqb y (pair (group_of (key_at s p)) p) d) at h in later (omega arith))
      by false h later = later h

  pair_rises : (group b p : ℕ) → b ≤ p → pair group b ≤ pair group p
  unfolding pair
  pair_rises group b p h = omega arith

  module _ (group : ℕ) where
    kept_rise : (n b p : ℕ) → b ≤ p → KeysFit s n p → Sorted (pair group b ∷ keep (of_group group) (gather state_pair s n p))
    unfolding KeysFit gather state_pair keep
    kept_rise zero b p h fit = sorted_cons (pair group b) [] (λ k l. absurd (not-suc-le-zero l)) (unfold sort in sort_sorted [])
    kept_rise (suc n) b p h fit =
        let past : p ≤ key_end s p = omega (arith, key_end_lem s p) in
        by (in_group (key_at s p)) (kept_rise n b (key_end s p) (omega arith) fit.1) (kept_rise n p (key_end s p) past fit.1)
      where
        rest : List ℕ
        rest = keep (of_group group) (gather state_pair s n (key_end s p))

        by : (t : Bool) → Sorted (pair group b ∷ rest) → Sorted (pair group p ∷ rest)
            → Sorted (pair group b ∷ keep (of_group group) (cond t (pair (group_of (key_at s p)) p ∷ []) [] ++ gather state_pair s n (key_end s p)))
        by true one other = same_or_not (group_of (key_at s p)) group
            (λ e. rw (pair_first (group_of (key_at s p)) p (omega (arith, near n p fit)), eq-eqb (group_of (key_at s p)) group e, e)
            (sorted_cons (pair group b) (pair group p ∷ rest)
            (λ k l. le_trans (pair_rises group b p h) (sorted_from (pair group p) rest other k l))
            other))
            (λ d. rw (pair_first (group_of (key_at s p)) p (omega (arith, near n p fit)), ne_eqb (group_of (key_at s p)) group d) one)
        by false one other = one

    -- so a group is the same in the pairs sorted
    group_sorted : (kind id n p : ℕ) → KeysFit s n p
        → group_findings s kind group id (sort (gather state_pair s n p)) ≡ group_findings s kind group id (gather state_pair s n p)
    unfolding group_findings
    group_sorted kind id n p fit =
        let xs = gather state_pair s n p in
        let of : ℕ → List Finding = λ x. finding kind (key_at s (x % 2 ^ 64)).offset id ∷ [] in
        let up = sorted_tail (pair group p) (keep (of_group group) xs) (kept_rise n p p (le_refl p) fit) in
        sym (each_keep of (of_group group) (sort xs))
        ∙ ap (each (λ _ x. of x) 0) (keep_sort (of_group group) xs up)
        ∙ each_keep of (of_group group) xs

    only_one : (b : Bool) (f : Finding) → only b (f ∷ []) ≡ when b f
    unfolding only when
    only_one true f = refl
    only_one false f = refl

    -- and is that of the keys in it
    group_key : (kind id n p : ℕ) → KeysFit s (suc n) p
        → group_findings s kind group id (state_pair p (key_at s p))
        ≡ when (in_group (key_at s p) && eqb (group_of (key_at s p)) group) (finding kind (key_at s p).offset id)
    unfolding state_pair
    group_key kind id n p fit = by (in_group (key_at s p))
      where
        by : (t : Bool) → group_findings s kind group id (cond t (pair (group_of (key_at s p)) p ∷ []) [])
            ≡ when (t && eqb (group_of (key_at s p)) group) (finding kind (key_at s p).offset id)
        by true =
            group_pair s kind group id (group_of (key_at s p)) p (omega (arith, near n p fit))
            ∙ only_one (eqb (group_of (key_at s p)) group) (finding kind (key_at s p).offset id)
        by false = group_nil s kind group id ∙ (unfold when in refl)

    group_keys : (kind id : ℕ) (test : Bkey → Bool) → ((k : Bkey) → in_group k && eqb (group_of k) group ≡ test k) → (n p : ℕ) → KeysFit s n p
        → group_findings s kind group id (gather state_pair s n p) ≡ each (λ _ k. when (test k) (finding kind k.offset id)) 0 (keys_from s n p)
    unfolding KeysFit gather keys_from each
    group_keys kind id test same zero p fit = group_nil s kind group id
    group_keys kind id test same (suc n) p fit =
        group_append s kind group id (state_pair p (key_at s p)) (gather state_pair s n (key_end s p))
        ∙ ap₂ (λ (a b : List Finding). a ++ b)
        (group_key kind id n p fit ∙ ap (λ (b : Bool). when b (finding kind (key_at s p).offset id)) (same (key_at s p)))
        (group_keys kind id test same n (key_end s p) fit.1
        ∙ sym (each_any (λ _ k. when (test k) (finding kind k.offset id)) (λ i k. refl) 1 (keys_from s n (key_end s p))))

-- ---- the pairs of all keys, sorted, and no pairs

-- the first n pairs of w are sorted, and the second word of each is where a key's head stands in the book s
pub record Grouped (s w : List ℕ) (n : ℕ) : Type 0 where
  pub small : length s ≤ 1048576
  pub room : 2 * n ≤ length w
  pub sorted : Sorted (pairs_of w n)
  pub heads : (k : ℕ) → k < n → get_or w (2 * k + 1) 0 + 28 ≤ length s

pub all_grouped : (s w : List ℕ) (m n p : ℕ) → length s ≤ 1048576 → KeysFit s n p → Words w → 2 * m ≤ length w
    → pairs_of w m ≡ sort (gather state_pair s n p) → Grouped s w m
unfolding Permuted
all_grouped s w m n p small fit fits room e = record {
  small = small;
  room = room;
  sorted = sorted_by (gather state_pair s n p) (pairs_of w m) e;
  heads = λ k l.
      let y = get_or (pairs_of w m) k 0 in
      let there-is : 0 < count y (gather state_pair s n p) =
      rw (sort_permuted (gather state_pair s n p) y, ← e) (there (pairs_of w m) k (rw length_pairs l)) in
      rw (← second w m fits k l) (all_heads s small n p fit y there-is);
}

-- those of a book's states
pub grouped : (st : States) → Grouped st.book.bytes.now st.pairs.words.now st.pairs.count
grouped st =
    let p = parts st.book.opened in
    all_grouped st.book.bytes.now st.pairs.words.now st.pairs.count st.book.header.keys st.book.places.keys p.small p.keys_fit st.pairs.wide st.pairs.inside st.all

-- ---- the rule

pub judged_all : (b : Book) (s : List ℕ) (n p : ℕ) {xs : List ℕ} → length s ≤ 1048576 → KeysFit s n p → b.keys ≡ keys_from s n p
    → xs ≡ sort (gather state_pair s n p) → each (λ _ k. judged s xs k) 0 b.keys ≡ subvolume_states b
unfolding judged subvolume_findings subvolume_states
judged_all b s n p {xs} small fit keys pairs =
    each_same (judged s xs) (λ k. only (unavailable k) (subvolume_findings b k))
    (λ k. rw (
      pairs,
      group_sorted s small (2 * k.offset) 30 k.offset n p fit,
      group_sorted s small (2 * k.offset + 1) 31 k.offset n p fit,
      group_keys s small (2 * k.offset) 30 k.offset (live_snapshot_of k.offset) (snapshot_key k.offset) n p fit,
      group_keys s small (2 * k.offset + 1) 31 k.offset (tree_of_subvolume k.offset) (tree_key k.offset) n p fit,
      keys,
    ))
    0 b.keys

-- without an unavailable subvolume there is nothing to find
none_gone : (b : Book) (i : ℕ) (ks : List Bkey) → any_key unavailable ks ≡ false → each (λ _ k. only (unavailable k) (subvolume_findings b k)) i ks ≡ []
unfolding any_key each only
none_gone b i [] e = refl
none_gone b i (k ∷ ks) e = let none = both_false (unavailable k) (any_key unavailable ks) e in rw none.0 (none_gone b (suc i) ks none.1)

pub states_none : (b : Book) → any_key unavailable b.keys ≡ false → subvolume_states b ≡ []
unfolding subvolume_states
states_none b e = none_gone b 0 b.keys e

-- one subvolume
module _ (s xs : List ℕ) (k : Bkey) where
  pub judged_no : unavailable k ≡ false → judged s xs k ≡ []
  unfolding judged only
  judged_no e = rw e

  module _ (gone : unavailable k ≡ true) {o w : ℕ} (offset : o ≡ k.offset) (state : w ≡ le_at k.value 40 4) where
    pub judged_unlinked : (w ≡ subvol_deleted → ⊥) → when (eqb o 1) (finding 29 1 0) ≡ judged s xs k
    unfolding judged only subvol_state
    judged_unlinked h = rw (gone, ← state, ne_eqb w subvol_deleted h, ← offset, append-nil)

    pub judged_deleted : w ≡ subvol_deleted
        → when (eqb o 1) (finding 29 1 0) ++ (group_findings s 30 (2 * o) o xs ++ group_findings s 31 (2 * o + 1) o xs) ≡ judged s xs k
    unfolding judged only subvol_state
    judged_deleted h = rw (gone, ← state, eq-eqb w subvol_deleted h, ← offset)

-- an unavailable subvolume has its state word and an id of 32 bits
pub gone_long : (k : Bkey) → unavailable k ≡ true → 44 ≤ length k.value
unfolding unavailable has_subvol_state
gone_long k e =
    let rest = (eqb (subvol_state k) subvol_unlinked || eqb (subvol_state k) subvol_deleted) && leb k.offset 4294967295 in
    leb-true 44 (length k.value) (both_true (is 8 21 k) _ (both_true (is 8 21 k && leb 44 (length k.value)) rest e).0).1

pub gone_small : (k : Bkey) → unavailable k ≡ true → k.offset ≤ 4294967295
unfolding unavailable
gone_small k e =
    let state = eqb (subvol_state k) subvol_unlinked || eqb (subvol_state k) subvol_deleted in
    leb-true k.offset 4294967295 (both_true state _ (both_true (has_subvol_state k) _ e).1).1
