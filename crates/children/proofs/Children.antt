-- What the code computes of subvolumes and entries is what the rule asks of them.
use Rattle.std.specs.Prelude.{None, Option, Some}
use Prim.Native.Nat.{ℕ, zero, suc, ◌+◌, ◌*◌, ◌%◌, ◌^◌, ◌≤◌, ◌<◌, min}
use mathlib.Core.Path.{◌≡◌, refl, sym, ap, ◌∙◌}
use mathlib.Core.Bool.{Bool, true, false, true≢false, cond, not, ◌&&◌, ◌||◌, or-true}
use mathlib.Core.Logic.{⊎_elim}
use mathlib.Core.List.{List, [], ◌∷◌, ◌++◌}
use native.Mathlib.Omega.{arith}
use lib.ListN.{length, get_or, drop}
use lib.Dec.{eqb, leb}
use borrow.Author.Tests.{eq-eqb, ne_eqb, eqb-true, le-leb, lt-leb, leb-false, ltb-true, le-ltb, not-false}
use Rattle.bits.specs.Bits.{le_at}
use Rattle.findings.specs.Findings.{Finding, finding, when, only, keep, each}
use Rattle.findings.proofs.Walk.{drop_at, drop_past}
use Rattle.pairs.specs.Pairs.{pair, pairs_of, has}
use Rattle.pairs.proofs.Order.{tested, both_true, both_false, same_or_not}
use Rattle.pairs.proofs.Bounds.{has_append, has_sort}
use Rattle.pairs.proofs.Words.{pair_first, pair_second, second, length_pairs}
use Rattle.book.specs.declared.Header.{Header}
use Rattle.book.specs.declared.Places.{Places}
use Rattle.book.specs.Maps.{lookup}
use Rattle.book.specs.Book.{Bkey, is, key_end, keys_from, book_of}
use Rattle.book.specs.Walk.{Opened}
use Rattle.book.proofs.Walk.{parts}
use Rattle.states.specs.StateDistance.{subvol_deleted}
use Rattle.walk.specs.Keys.{key_at, gather, any_key}
use Rattle.book.proofs.AtKey.{long_enough}
use Rattle.walk.proofs.Sets.{has_nil, other_btree}
use Rattle.book.specs.KeyMaps.{map_of}
use Rattle.maps.specs.Places.{place_pair, number_in, which_in, last_place, last_places}
use Rattle.maps.specs.Sorted.{AllPairs}
use Rattle.maps.proofs.Pairs.{which_part}
use Rattle.maps.proofs.Last.{number_at}
use Rattle.maps.specs.LastKeys.{word_at}
use Rattle.maps.proofs.Places.{Gives, Held, find_law, each_map, set_law}
use Rattle.book.specs.Words.{word, holds}
use Rattle.children.specs.SubvolumeChildren.{is_deleted, has_fs_parent, fs_parents, is_entry, is_entry_of, missing_entry, wrong_entry}
use Rattle.children.specs.Steps.{child_pair, wrong_word, any_wrong, AtChild, Known}
use Rattle.children.specs.declared.Child.{Child}
use Rattle.children.specs.declared.gathered.Children.{Children}

-- ---- the key at hand
module _ (k : Bkey) where
  pub parent_short : holds 8 21 24 k ≡ true → length k.value < 44 → true ≡ has_fs_parent k
  unfolding has_fs_parent is_deleted
  parent_short e h = rw (e, lt-leb 44 (length k.value) h)

  pub parent_long : holds 8 21 24 k ≡ true → 44 ≤ length k.value → {w : ℕ} → w ≡ le_at k.value 40 4 → not (eqb w subvol_deleted) ≡ has_fs_parent k
  unfolding has_fs_parent is_deleted
  parent_long e h w = rw (e, le-leb 44 (length k.value) h, w)

  pub parent_none : holds 8 21 24 k ≡ false → false ≡ has_fs_parent k
  unfolding has_fs_parent
  parent_none e = rw e

  -- a subvolume with a parent has the word for it
  pub parent_word : has_fs_parent k ≡ true → 24 ≤ length k.value
  unfolding has_fs_parent holds
  parent_word e = long_enough (is 8 21 k) 24 (length k.value) (both_true (is 8 21 k && leb 24 (length k.value)) (not (is_deleted k)) e).0

-- ---- the pair that a key gives
pub child_subvolume : (p : ℕ) (k : Bkey) → has_fs_parent k ≡ true → {o : ℕ} → o ≡ k.offset → pair o p ∷ [] ≡ child_pair p k
unfolding child_pair place_pair
child_subvolume p k e o = rw (e, o) (ap (λ (x : ℕ). pair k.offset x ∷ []) (omega arith))

pub child_entry : (p : ℕ) (k : Bkey) → has_fs_parent k ≡ false → is_entry k ≡ true → {o i : ℕ} → o ≡ k.offset → i ≡ min k.inode (2 ^ 32) → pair o (4294967296 + i) ∷ [] ≡ child_pair p k
unfolding child_pair place_pair
child_entry p k e l o i = rw (e, l, o, i) (ap (λ (x : ℕ). pair k.offset x ∷ []) (omega arith))

pub child_none : (p : ℕ) (k : Bkey) → has_fs_parent k ≡ false → is_entry k ≡ false → [] ≡ child_pair p k
unfolding child_pair
child_none p k e l = rw (e, l)

-- ---- map 0 is that of the subvolumes with a parent
of_map : (v : ℕ) (which : ℕ) {b : Bool} → eqb (which_in v) which ≡ b → keep (λ x. eqb (which_in x) which) (v ∷ []) ≡ cond b (v ∷ []) []
unfolding keep
of_map v which e = rw e

kept_first : (a b : Bool) (v u : ℕ) → which_in v ≡ 0 → (which_in u ≡ 0 → ⊥) → keep (λ x. eqb (which_in x) 0) (cond a (v ∷ []) (cond b (u ∷ []) [])) ≡ cond a (v ∷ []) []
kept_first true b v u e h = of_map v 0 (eq-eqb (which_in v) 0 e)
kept_first false true v u e h = of_map u 0 (ne_eqb (which_in u) 0 h)
kept_first false false v u e h = unfold keep in refl

entry_which : (offset inode : ℕ) → which_in (place_pair 1 offset (min inode (2 ^ 32))) ≡ 0 → ⊥
unfolding which_in place_pair pair
entry_which offset inode e = absurd (omega arith)

pub subvolumes : Gives 0 child_pair has_fs_parent (λ k. k.offset)
subvolumes = record {
  small = omega arith;
  gives = λ p k h. unfold child_pair in kept_first (has_fs_parent k) (is_entry k) (place_pair 0 k.offset p) (place_pair 1 k.offset (min k.inode (2 ^ 32)))
      (which_part 0 k.offset p (omega arith) h) (entry_which k.offset k.inode);
}

-- ---- set 1 is that of the entries
same_pair : (child parent offset inode : ℕ) → parent < 2 ^ 32 → eqb (pair child (4294967296 + parent)) (place_pair 1 offset (min inode (2 ^ 32))) ≡ eqb inode parent && eqb offset child
unfolding place_pair pair
same_pair child parent offset inode h = same_or_not inode parent
    (λ e. same_or_not offset child
    (λ d. rw (eq-eqb inode parent e, eq-eqb offset child d) (eq-eqb (pair child (4294967296 + parent)) (place_pair 1 offset (min inode (2 ^ 32))) (omega arith)))
    (λ d. rw (eq-eqb inode parent e, ne_eqb offset child d) (ne_eqb (pair child (4294967296 + parent)) (place_pair 1 offset (min inode (2 ^ 32))) (λ z. d (omega arith)))))
    (λ e. rw (ne_eqb inode parent e) (ne_eqb (pair child (4294967296 + parent)) (place_pair 1 offset (min inode (2 ^ 32))) (λ z. e (omega arith))))

other_pair : (child parent offset p : ℕ) → parent < 2 ^ 32 → p < 2 ^ 32 → eqb (pair child (4294967296 + parent)) (place_pair 0 offset p) ≡ false
unfolding place_pair pair
other_pair child parent offset p h i = ne_eqb (pair child (4294967296 + parent)) (place_pair 0 offset p) (λ z. absurd (omega arith))

-- no key is both
subvolume_entry : (k : Bkey) → has_fs_parent k ≡ true → is_entry k ≡ false
unfolding has_fs_parent holds
subvolume_entry k e =
    let subvolume = (both_true (is 8 21 k) (leb 24 (length k.value)) (both_true (is 8 21 k && leb 24 (length k.value)) (not (is_deleted k)) e).0).0 in
    other_btree k 8 21 19 25 (λ z. absurd (omega arith)) subvolume

has_one : (x y : ℕ) {b : Bool} → eqb x y ≡ b → has x (y ∷ []) ≡ b
unfolding has
has_one x y {b = true} e = rw e
has_one x y {b = false} e = rw e

module _ (parent child : ℕ) (small : parent < 2 ^ 32) (k : Bkey) where
  entry_subvolume : has_fs_parent k ≡ true → is_entry_of parent child k ≡ false
  unfolding is_entry_of
  entry_subvolume e = rw (subvolume_entry k e)

  -- the pair of a child and its parent is that of an entry
  entry_key : (p : ℕ) → p < 2 ^ 32 → has (pair child (4294967296 + parent)) (child_pair p k) ≡ is_entry_of parent child k
  unfolding child_pair is_entry_of
  entry_key p h = ⊎_elim
      (λ a. rw a (has_one (pair child (4294967296 + parent)) (place_pair 0 k.offset p) (other_pair child parent k.offset p small h) ∙ sym (entry_subvolume a)))
      (λ a. rw a (⊎_elim
      (λ b. rw b (has_one (pair child (4294967296 + parent)) (place_pair 1 k.offset (min k.inode (2 ^ 32))) (same_pair child parent k.offset k.inode small)))
      (λ b. rw b (has_nil (pair child (4294967296 + parent))))
      (tested (is_entry k))))
      (tested (has_fs_parent k))

-- the finding of a child and the place of its subvolume
abbrev pub missing : List ℕ → ℕ × ℕ → List Finding
missing s e = missing_entry (book_of s).keys (e.0, word 20 (key_at s e.1))

-- ---- the whole book: xs are the pairs of its keys, sorted
pub all_pairs : (c : Children) → AllPairs child_pair c.book.bytes.now c.book.header.keys c.book.places.keys (pairs_of c.pairs.words.now c.pairs.count)
all_pairs c = let p = parts c.book.opened in record { small = p.small; fit = p.keys_fit; all = c.all }

module _ {s : List ℕ} {h : Header} {at : Places} (o : Opened s h at) {xs : List ℕ} (a : AllPairs child_pair s h.keys at.keys xs) where
  parents_are : fs_parents (book_of s) ≡ map_of has_fs_parent (λ k. k.offset) (word 20) (keys_from s h.keys at.keys)
  unfolding fs_parents
  parents_are = rw (parts o).keys

  pub parent_found : (x : ℕ) {q w : ℕ} → last_place 0 x xs ≡ Some q → w ≡ word 20 (key_at s q) → Some w ≡ (lookup x (fs_parents (book_of s)))
  unfolding word_at
  parent_found x e w = rw (parents_are, find_law subvolumes a (word 20) x, e, w)

  pub parent_absent : (x : ℕ) → last_place 0 x xs ≡ None → None ≡ (lookup x (fs_parents (book_of s)))
  unfolding word_at
  parent_absent x e = rw (parents_are, find_law subvolumes a (word 20) x, e)

  pub entry_there : (parent child : ℕ) {b : Bool} → parent < 2 ^ 32 → b ≡ has (pair child (4294967296 + parent)) xs → b ≡ any_key (is_entry_of parent child) (book_of s).keys
  entry_there parent child small e =
      e ∙ set_law (pair child (4294967296 + parent)) (is_entry_of parent child) (λ p k l. entry_key parent child small k p l) a
      ∙ ap (any_key (is_entry_of parent child)) (sym (parts o).keys)

  pub missing_all : each (λ _ e. missing_entry (book_of s).keys e) 0 (fs_parents (book_of s)) ≡ each (λ _ e. missing s e) 0 (last_places 0 xs)
  missing_all = ap (each (λ _ e. missing_entry (book_of s).keys e) 0) parents_are ∙ each_map subvolumes a (word 20) (missing_entry (book_of s).keys)

-- ---- where no pair is wrong, no entry is
wrong_pair : (m : List (ℕ × ℕ)) (x : ℕ) (xs : List ℕ) → any_wrong m xs ≡ false → has x xs ≡ true → wrong_word (x % 2 ^ 64) ((lookup (number_in x) m)) ≡ false
unfolding any_wrong has
wrong_pair m x [] e h = absurd (true≢false (sym h))
wrong_pair m x (y ∷ ys) e h =
    let both = both_false (wrong_word (y % 2 ^ 64) ((lookup (number_in y) m))) (any_wrong m ys) e in
    ⊎_elim
    (λ t. rw (eqb-true x y t) both.0)
    (λ t. wrong_pair m x ys both.1 (rw t at h))
    (tested (eqb x y))

-- by pair i of the words and those after it
pub wrong_at : (m : List (ℕ × ℕ)) (w : List ℕ) (n i : ℕ) → i < n → ((k : ℕ) → get_or w k 0 < 2 ^ 64)
    → any_wrong m (drop i (pairs_of w n)) ≡ wrong_word (get_or w (2 * i + 1) 0) ((lookup (get_or w (2 * i) 0) m)) || any_wrong m (drop (i + 1) (pairs_of w n))
unfolding any_wrong
wrong_at m w n i l small = rw (drop_at (pairs_of w n) i 0 (rw length_pairs l), number_at w n i l small, second w n small i l)

-- by what is known of its child
pub wrong_here : (c : Children) (i : ℕ) → i < c.pairs.count → {d : Child} {y : ℕ} {b : Bool} → d.number ≡ get_or c.pairs.words.now (2 * i) 0 → Known (book_of c.book.bytes.now) d
    → y ≡ get_or c.pairs.words.now (2 * i + 1) 0 → b ≡ wrong_word y d.parent
    → let m = fs_parents (book_of c.book.bytes.now) in let xs = pairs_of c.pairs.words.now c.pairs.count in
    any_wrong m (drop i xs) ≡ b || any_wrong m (drop (i + 1) xs)
wrong_here c i l n k y b =
    wrong_at (fs_parents (book_of c.book.bytes.now)) c.pairs.words.now c.pairs.count i l c.pairs.wide ∙ rw (b, k.parent, n, y)

pub wrong_past : (m : List (ℕ × ℕ)) (w : List ℕ) (n i : ℕ) → n ≤ i → any_wrong m (drop i (pairs_of w n)) ≡ false
unfolding any_wrong
wrong_past m w n i h = rw (drop_past (pairs_of w n) i (omega (arith, length_pairs w n)))

-- the finding of an entry, by its pair
entry_right : (m : List (ℕ × ℕ)) (k : Bkey) → let x = place_pair 1 k.offset (min k.inode (2 ^ 32)) in
    wrong_word (x % 2 ^ 64) ((lookup (number_in x) m)) ≡ false → wrong_entry k (lookup k.offset m) ≡ []
unfolding number_in place_pair wrong_word wrong_entry
entry_right m k e = by (lookup k.offset m) (rw (pair_first k.offset (1 * 2 ^ 32 + min k.inode (2 ^ 32)) (omega arith), pair_second k.offset (1 * 2 ^ 32 + min k.inode (2 ^ 32)) (omega arith)) at e)
  where
    by : (o : Option ℕ) → wrong_word (1 * 2 ^ 32 + min k.inode (2 ^ 32)) o ≡ false → wrong_entry k o ≡ []
    by None e = absurd (omega (arith, ltb-true (1 * 2 ^ 32 + min k.inode (2 ^ 32)) (2 ^ 32) (not-false _ e)))
    by (Some parent) e =
        let big = le-ltb (1 * 2 ^ 32 + min k.inode (2 ^ 32)) (2 ^ 32) (omega arith) in
        let both = both_false (leb (2 ^ 33) (1 * 2 ^ 32 + min k.inode (2 ^ 32))) (not (eqb (1 * 2 ^ 32 + min k.inode (2 ^ 32)) (2 ^ 32 + parent))) (rw big at e) in
        let same = eqb-true (1 * 2 ^ 32 + min k.inode (2 ^ 32)) (2 ^ 32 + parent) (not-false _ both.1) in
        unfold when in rw (eq-eqb parent k.inode (omega (arith, leb-false (2 ^ 33) (1 * 2 ^ 32 + min k.inode (2 ^ 32)) both.0)))

-- the pair of an entry is there
entry_has : (p : ℕ) (k : Bkey) → is_entry k ≡ true → has (place_pair 1 k.offset (min k.inode (2 ^ 32))) (child_pair p k) ≡ true
unfolding child_pair
entry_has p k e = let x = place_pair 1 k.offset (min k.inode (2 ^ 32)) in ⊎_elim
    (λ a. absurd (true≢false (sym e ∙ subvolume_entry k a)))
    (λ a. rw a (rw e (has_one x x (eq-eqb x x refl))))
    (tested (has_fs_parent k))

module _ (m : List (ℕ × ℕ)) (s : List ℕ) where
  none_wrong : (n p i : ℕ) → ((x : ℕ) → has x (gather child_pair s n p) ≡ true → wrong_word (x % 2 ^ 64) ((lookup (number_in x) m)) ≡ false)
      → each (λ _ k. only (is_entry k) (wrong_entry k (lookup k.offset m))) i (keys_from s n p) ≡ []
  unfolding gather keys_from each only
  none_wrong zero p i h = refl
  none_wrong (suc n) p i h =
      let k = key_at s p in
      let first : is_entry k ≡ true → wrong_entry k (lookup k.offset m) ≡ [] = λ e. entry_right m k (h (place_pair 1 k.offset (min k.inode (2 ^ 32)))
      (has_append (place_pair 1 k.offset (min k.inode (2 ^ 32))) (child_pair p k) (gather child_pair s n (key_end s p)) ∙ rw (entry_has p k e))) in
      let rest = none_wrong n (key_end s p) (suc i) (λ x e. h x (has_append x (child_pair p k) (gather child_pair s n (key_end s p)) ∙ rw e (or-true (has x (child_pair p k))))) in
      rw rest (⊎_elim (λ e. rw e (ap (λ (l : List Finding). l ++ []) (first e))) (λ e. rw e) (tested (is_entry k)))

pub wrongs_none : {s : List ℕ} {h : Header} {at : Places} → Opened s h at → {xs : List ℕ} → AllPairs child_pair s h.keys at.keys xs → any_wrong (fs_parents (book_of s)) xs ≡ false
    → each (λ _ k. only (is_entry k) (wrong_entry k (lookup k.offset (fs_parents (book_of s))))) 0 (book_of s).keys ≡ []
wrongs_none {s} {h} {at} o {xs} a e =
    let m = fs_parents (book_of s) in
    let pairs = gather child_pair s h.keys at.keys in
    ap (each (λ _ k. only (is_entry k) (wrong_entry k (lookup k.offset m))) 0) (parts o).keys
    ∙ none_wrong m s h.keys at.keys 0 (λ x t. wrong_pair m x xs e (ap (has x) a.all ∙ has_sort x pairs ∙ t))

-- a key that the pairs name is a subvolume with a parent
pub child_at : {s : List ℕ} {x q : ℕ} → length s ≤ 1048576 → Held has_fs_parent (λ k. k.offset) s x q → AtChild s q
child_at small h = record { small = small; head = h.head; inside = h.inside; parent = h.passes }

-- ---- the findings
pub missing_one : (keys : List Bkey) (child : ℕ) {parent w : ℕ} {b : Bool} → w ≡ parent → b ≡ any_key (is_entry_of w child) keys
    → when (not (eqb w 0) && not b) (finding 37 child w) ≡ missing_entry keys (child, parent)
unfolding missing_entry
missing_one keys child w b = rw (b, w)

module _ (k : Bkey) (m : List (ℕ × ℕ)) {child : ℕ} where
  pub wrong_parent : {parent inode : ℕ} → lookup child m ≡ Some parent → inode ≡ k.inode → child ≡ k.offset
      → when (not (eqb parent inode)) (finding 38 child parent) ≡ wrong_entry k (lookup k.offset m)
  unfolding wrong_entry
  wrong_parent f i c = rw (i, ← c, f)

  pub wrong_none : lookup child m ≡ None → child ≡ k.offset → finding 38 child 0 ∷ [] ≡ wrong_entry k (lookup k.offset m)
  unfolding wrong_entry
  wrong_none f c = rw (← c, f)
