-- The pairs of all keys, sorted, are the maps of the snapshots of 8, 24 and 40 value bytes or more, and that of the tree records.
use Rattle.std.specs.Prelude.{Some}
use Prim.Native.Nat.{ℕ, ◌^◌, ◌≤◌, ◌<◌}
use mathlib.Core.Path.{◌≡◌, refl, sym, ap, ap₂, ◌∙◌}
use mathlib.Core.Bool.{Bool, true, false, true≢false, cond, ◌&&◌, ◌||◌}
use mathlib.Core.List.{List, [], ◌∷◌}
use native.Mathlib.Omega.{arith}
use lib.ListN.{length}
use lib.Dec.{eqb, leb, lit<}
use borrow.Author.Tests.{eqb-true, ne_eqb, leb-true, leb-false}
use Rattle.findings.specs.Findings.{keep}
use Rattle.pairs.proofs.Order.{both_true}
use Rattle.book.specs.Maps.{lookup}
use Rattle.book.specs.KeyMaps.{map_of}
use Rattle.book.specs.Book.{Bkey, is, keys_from}
use Rattle.book.specs.Words.{holds, id_of}
use Rattle.walk.proofs.Sets.{other_btree}
use Rattle.maps.specs.Places.{place_pair, which_in, last_place}
use Rattle.maps.specs.Sorted.{AllPairs}
use Rattle.maps.specs.LastKeys.{last_key, later, word_at}
use Rattle.maps.proofs.Pairs.{which_part}
use Rattle.maps.proofs.Places.{Gives, Held}
use Rattle.maps.proofs.LastKeys.{key_law, place_law, key_held, key_same, key_later}
use Rattle.drawn.specs.Classes.{class_of, link_pair, latest}

-- ---- the classes
-- a snapshot of this class
unfoldable pub of_class : ℕ → Bkey → Bool
of_class class k = holds 9 22 8 k && eqb (class_of (length k.value)) class

-- the least number of value bytes of a class
unfoldable pub bytes_of : ℕ → ℕ
bytes_of class = cond (eqb class 3) 40 (cond (eqb class 2) 24 8)

pub class_few : (n : ℕ) → (1 ≤ class_of n) × (class_of n ≤ 3)
unfolding class_of
class_few n = by (leb 40 n) (leb 24 n)
  where
    by : (a b : Bool) → (1 ≤ cond a 3 (cond b 2 1)) × (cond {A = ℕ} a 3 (cond b 2 1) ≤ 3)
    by true b = (omega arith, omega arith)
    by false true = (omega arith, omega arith)
    by false false = (omega arith, omega arith)

-- a tree record is no snapshot
not_snapshot : (k : Bkey) → holds 15 31 8 k ≡ true → holds 9 22 8 k ≡ false
unfolding holds
not_snapshot k e = rw (other_btree k 15 31 9 22 (λ (e : 15 ≡ 9). omega arith) (both_true (is 15 31 k) (leb 8 (length k.value)) e).0)

-- ---- the pairs of a key, by map
module _ (id p : ℕ) (h : p < 2 ^ 32) where
  kept : (which class : ℕ) → class < 2 ^ 32 → keep (λ v. eqb (which_in v) which) (place_pair class id p ∷ []) ≡ cond (eqb class which) (place_pair class id p ∷ []) []
  unfolding keep
  kept which class w = rw (which_part class id p w h)

  tree_kept : (a b : Bool) (class : ℕ) → class < 2 ^ 32 → 1 ≤ class
      → keep (λ v. eqb (which_in v) 0) (cond a (place_pair 0 id p ∷ []) (cond b (place_pair class id p ∷ []) [])) ≡ cond a (place_pair 0 id p ∷ []) []
  tree_kept true b class w l = kept 0 0 (omega arith)
  tree_kept false true class w l = kept 0 class w ∙ ap (λ (c : Bool). cond c (place_pair class id p ∷ []) []) (ne_eqb class 0 (λ e. absurd (omega arith)))
  tree_kept false false class w l = unfold keep in refl

  class_kept : (which : ℕ) → 1 ≤ which → (a b : Bool) (class : ℕ) → class < 2 ^ 32 → (a ≡ true → b ≡ false)
      → keep (λ v. eqb (which_in v) which) (cond a (place_pair 0 id p ∷ []) (cond b (place_pair class id p ∷ []) [])) ≡ cond (b && eqb class which) (place_pair which id p ∷ []) []
  class_kept which z true true class w d = absurd (true≢false (d refl))
  class_kept which z true false class w d = kept which 0 (omega arith) ∙ ap (λ (c : Bool). cond c (place_pair 0 id p ∷ []) []) (ne_eqb 0 which (λ e. absurd (omega arith)))
  class_kept which z false true class w d = kept which class w ∙ by (eqb class which) refl
    where
      by : (c : Bool) → eqb class which ≡ c → cond c (place_pair class id p ∷ []) [] ≡ cond c (place_pair which id p ∷ []) []
      by true e = ap (λ (m : ℕ). place_pair m id p ∷ []) (eqb-true class which e)
      by false e = refl
  class_kept which z false false class w d = unfold keep in refl

pub trees_give : Gives 0 link_pair (holds 15 31 8) id_of
unfolding link_pair
trees_give = record {
  small = lit< tt;
  gives = λ p k h.
      let c = class_few (length k.value) in
      tree_kept (id_of k) p h (holds 15 31 8 k) (holds 9 22 8 k) (class_of (length k.value)) (omega (arith, c.1)) c.0;
}

pub class_gives : (class : ℕ) → 1 ≤ class → class ≤ 3 → Gives class link_pair (of_class class) id_of
unfolding link_pair of_class
class_gives class a b = record {
  small = omega arith;
  gives = λ p k h.
      class_kept (id_of k) p h class a (holds 15 31 8 k) (holds 9 22 8 k) (class_of (length k.value)) (omega (arith, (class_few (length k.value)).1)) (not_snapshot k);
}

-- ---- the tests by classes
module _ (k : Bkey) where
  size : ℕ
  size = length k.value

  at_least : (m : ℕ) → 8 ≤ m → holds 9 22 m k ≡ holds 9 22 8 k && leb m size
  unfolding holds size
  at_least m h = by (is 9 22 k) (leb m (length k.value)) (leb 8 (length k.value)) refl refl
    where
      by : (a b c : Bool) → leb m (length k.value) ≡ b → leb 8 (length k.value) ≡ c → a && b ≡ (a && c) && b
      by true true true e f = refl
      by true true false e f = absurd (omega (arith, leb-true m (length k.value) e, leb-false 8 (length k.value) f))
      by true false true e f = refl
      by true false false e f = refl
      by false b c e f = refl

  three : of_class 3 k ≡ holds 9 22 8 k && leb 40 size
  unfolding of_class class_of size
  three = ap (λ (c : Bool). holds 9 22 8 k && c) (by (leb 40 (length k.value)) (leb 24 (length k.value)))
    where
      by : (a b : Bool) → eqb (cond a 3 (cond b 2 1)) 3 ≡ a
      by true b = refl
      by false true = refl
      by false false = refl

  two : of_class 2 k || of_class 3 k ≡ holds 9 22 8 k && leb 24 size
  unfolding of_class class_of size
  two = by (holds 9 22 8 k) (leb 40 (length k.value)) (leb 24 (length k.value)) refl refl
    where
      by : (h a b : Bool) → leb 40 (length k.value) ≡ a → leb 24 (length k.value) ≡ b
          → (h && eqb (cond a 3 (cond b 2 1)) 2) || (h && eqb (cond a 3 (cond b 2 1)) 3) ≡ h && b
      by true true true e f = refl
      by true true false e f = absurd (omega (arith, leb-true 40 (length k.value) e, leb-false 24 (length k.value) f))
      by true false true e f = refl
      by true false false e f = refl
      by false a b e f = refl

  one : of_class 1 k || (of_class 2 k || of_class 3 k) ≡ holds 9 22 8 k
  unfolding of_class class_of
  one = by (holds 9 22 8 k) (leb 40 (length k.value)) (leb 24 (length k.value))
    where
      by : (h a b : Bool) → (h && eqb (cond a 3 (cond b 2 1)) 1) || ((h && eqb (cond a 3 (cond b 2 1)) 2) || (h && eqb (cond a 3 (cond b 2 1)) 3)) ≡ h
      by true true b = refl
      by true false true = refl
      by true false false = refl
      by false a b = refl

-- ---- what a lookup finds
module _ {s : List ℕ} {n p : ℕ} {xs : List ℕ} (a : AllPairs link_pair s n p xs) (x : ℕ) where
  class_last : (class : ℕ) → 1 ≤ class → class ≤ 3 → last_place class x xs ≡ last_key (of_class class) id_of s x n p
  class_last class l u = place_law (class_gives class l u) a x

  last_three : last_place 3 x xs ≡ last_key (holds 9 22 40) id_of s x n p
  last_three = class_last 3 (omega arith) (omega arith) ∙ key_same _ _ id_of s x (λ k. three k ∙ sym (at_least k 40 (omega arith))) n p

  two_classes : later (last_place 2 x xs) (last_place 3 x xs) ≡ last_key (λ k. of_class 2 k || of_class 3 k) id_of s x n p
  two_classes =
      ap₂ later (class_last 2 (omega arith) (omega arith)) (class_last 3 (omega arith) (omega arith))
      ∙ sym (key_later (of_class 2) (of_class 3) id_of s x n p)

  last_two : later (last_place 2 x xs) (last_place 3 x xs) ≡ last_key (holds 9 22 24) id_of s x n p
  last_two = two_classes ∙ key_same _ _ id_of s x (λ k. two k ∙ sym (at_least k 24 (omega arith))) n p

  last_one : later (last_place 1 x xs) (later (last_place 2 x xs) (last_place 3 x xs)) ≡ last_key (holds 9 22 8) id_of s x n p
  last_one =
      ap₂ later (class_last 1 (omega arith) (omega arith)) two_classes
      ∙ sym (key_later (of_class 1) (λ k. of_class 2 k || of_class 3 k) id_of s x n p)
      ∙ key_same _ _ id_of s x one n p

  -- the last place among the snapshots of a class and those above it is that of the last key with so many bytes
  pub latest_key : (class : ℕ) → latest class x xs ≡ last_key (holds 9 22 (bytes_of class)) id_of s x n p
  unfolding latest bytes_of
  latest_key class = by (eqb class 3) (eqb class 2)
    where
      by : (b c : Bool) → cond b (last_place 3 x xs) (cond c (later (last_place 2 x xs) (last_place 3 x xs)) (later (last_place 1 x xs) (later (last_place 2 x xs) (last_place 3 x xs))))
          ≡ last_key (holds 9 22 (cond b 40 (cond c 24 8))) id_of s x n p
      by true c = last_three
      by false true = last_two
      by false false = last_one

  -- so it is what the map of the snapshots with so many bytes has
  pub latest_law : {A : Type 0} (class : ℕ) (word : Bkey → A) → lookup x (map_of (holds 9 22 (bytes_of class)) id_of word (keys_from s n p)) ≡ word_at word s (latest class x xs)
  latest_law class word = key_law (holds 9 22 (bytes_of class)) id_of word s x n p a.small a.fit ∙ ap (word_at word s) (sym (latest_key class))

  pub latest_held : (class q : ℕ) → latest class x xs ≡ Some q → Held (holds 9 22 (bytes_of class)) id_of s x q
  latest_held class q e = key_held (holds 9 22 (bytes_of class)) id_of s x n p a.fit q (sym (latest_key class) ∙ e)
