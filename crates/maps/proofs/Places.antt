-- The main laws: the pairs that a walk over the keys put, sorted, are the map that `map_of` makes.
use Rattle.std.specs.Prelude.{None, Option, Some}
use Prim.Native.Nat.{ℕ, zero, suc, ◌+◌, ◌*◌, ◌%◌, ◌^◌, ◌≤◌, ◌<◌}
use mathlib.Core.Path.{◌≡◌, refl, sym, ap, ap₂, ◌∙◌, subst}
use mathlib.Core.Bool.{Bool, true, false, cond, ◌&&◌}
use mathlib.Core.List.{List, [], ◌∷◌, ◌++◌, map}
use native.Mathlib.Nat.{le_refl, le_trans, not-suc-le-zero}
use native.Mathlib.Omega.{arith}
use lib.ListN.{length, get_or, drop}
use lib.Dec.{eqb}
use borrow.Author.Tests.{eq-eqb, ne_eqb, eqb-true}
use Rattle.findings.specs.Findings.{Finding, keep, each}
use Rattle.pairs.specs.Pairs.{pair, pairs_of, sort, Sorted, has, or_else}
use Rattle.pairs.specs.Counts.{count}
use Rattle.pairs.proofs.Order.{both_true, same_or_not, there, sorted_tail, sorted_cons, sort_sorted, sorted_by}
use Rattle.pairs.proofs.Bounds.{has_sort}
use Rattle.pairs.proofs.Words.{length_pairs}
use Rattle.book.specs.declared.KeyFront.{KeyFront}
use Rattle.book.specs.Maps.{lookup}
use Rattle.book.specs.Book.{Bkey, key_head, key_end, keys_from}
use Rattle.book.specs.Walk.{KeysFit, front_of}
use Rattle.book.proofs.Laws.{key_end_lem}
use Rattle.walk.specs.Keys.{key_at, AtKey, gather, any_key}
use Rattle.walk.proofs.Sets.{any_by}
use Rattle.book.specs.KeyMaps.{map_of}
use Rattle.maps.specs.Places.{place_pair, number_in, which_in, place_in, is_for, last_place, last_places}
use Rattle.maps.specs.Sorted.{AllPairs, last_at}
use Rattle.maps.specs.LastKeys.{word_at}
use Rattle.maps.proofs.Maps.{or_some, last_for, some_none, collect_lookup, collect_rises, rises_same, map_lookup, map_rises}
use Rattle.maps.proofs.Pairs.{number_part, place_part, place_for, for_parts, parts_for, keep_append, keep_parts, kept_there, keep_sort, last_kept, last_holds}
use Rattle.maps.proofs.Last.{place_of, sorted_from, places_lookup, places_rise, number_at, place_at, last_which}

-- of the pairs that a key gives, those of a map are its number and place, where it passes the map's test
pub record Gives (which : ℕ) (of : ℕ → Bkey → List ℕ) (test : Bkey → Bool) (number : Bkey → ℕ) : Type 0 where
  pub small : which < 2 ^ 32
  pub gives : (p : ℕ) (k : Bkey) → p < 2 ^ 32 → keep (λ x. eqb (which_in x) which) (of p k) ≡ cond (test k) (place_pair which (number k) p ∷ []) []

-- at byte q stands a key of the book that passes the test, with the number x
pub record Held (test : Bkey → Bool) (number : Bkey → ℕ) (s : List ℕ) (x q : ℕ) : Type 0 where
  pub passes : test (key_at s q) ≡ true
  pub numbered : number (key_at s q) ≡ x
  pub head : q + 28 ≤ length s
  pub inside : key_end s q ≤ length s

module _ {A : Type 0} (word : Bkey → A) (s : List ℕ) where
  word_or : (m m' : Option ℕ) → word_at word s (or_else m m') ≡ or_some (word_at word s m) (word_at word s m')
  unfolding word_at or_else or_some
  word_or (Some q) m' = refl
  word_or None m' = refl

  -- the same by the place alone
  unfoldable hold : Option ℕ → Option A
  hold None = None
  hold (Some q) = Some (word (key_at s q))

  word_place : (m : Option ℕ) → hold (place_of m) ≡ word_at word s m
  unfolding hold place_of word_at
  word_place (Some q) = refl
  word_place None = refl

  mapped_lookup : (x : ℕ) (m : Option ℕ) (l : List (ℕ × ℕ)) → lookup x l ≡ place_of m → lookup x (map (λ e. (e.0, word (key_at s e.1))) l) ≡ word_at word s m
  unfolding hold
  mapped_lookup x m l e = map_lookup (λ q. word (key_at s q)) hold refl (λ q. refl) x l ∙ ap hold e ∙ word_place m

pub each_mapped : {A B : Type 0} (f : B → List Finding) (h : A → B) (i : ℕ) (xs : List A) → each (λ _ e. f e) i (map h xs) ≡ each (λ _ e. f (h e)) i xs
unfolding each
each_mapped f h i [] = refl
each_mapped f h i (x ∷ xs) = ap (λ (l : List Finding). f (h x) ++ l) (each_mapped f h (suc i) xs)

-- the pairs of a map with the number x that the keys give, in their order
module _ (which : ℕ) (test : Bkey → Bool) (number : Bkey → ℕ) (s : List ℕ) (x : ℕ) where
  unfoldable pub own : ℕ → ℕ → List ℕ
  own zero p = []
  own (suc n) p = cond (test (key_at s p) && eqb (number (key_at s p)) x) (place_pair which x p ∷ own n (key_end s p)) (own n (key_end s p))

  module _ (w : which < 2 ^ 32) (few : length s ≤ 1048576) where
    near : (n p : ℕ) → KeysFit s (suc n) p → p < 2 ^ 32
    unfolding KeysFit
    near n p fit = omega (arith, key_end_lem s p, fit.0)

    own_one : (t : Bool) (m p : ℕ) (r : List ℕ) → p < 2 ^ 32 → keep (λ v. eqb (number_in v) x) (cond t (place_pair which m p ∷ []) []) ++ r ≡ cond (t && eqb m x) (place_pair which x p ∷ r) r
    unfolding keep
    own_one true m p r h = same_or_not m x
        (λ e. rw (number_part which m p w h, eq-eqb m x e, e))
        (λ d. rw (number_part which m p w h, ne_eqb m x d))
    own_one false m p r h = refl

    keep_own : (of : ℕ → Bkey → List ℕ) → Gives which of test number → (n p : ℕ) → KeysFit s n p → keep (is_for which x) (gather of s n p) ≡ own n p
    unfolding KeysFit own gather
    keep_own of g zero p fit = unfold keep in refl
    keep_own of g (suc n) p fit =
        let k = key_at s p in
        keep_append (is_for which x) (of p k) (gather of s n (key_end s p))
        ∙ ap₂ (λ (a b : List ℕ). a ++ b)
        (keep_parts which x (of p k) ∙ ap (keep (λ v. eqb (number_in v) x)) (g.gives p k (near n p fit)))
        (keep_own of g n (key_end s p) fit.1)
        ∙ own_one (test k) (number k) p (own n (key_end s p)) (near n p fit)

    -- their places rise
    place_rises : (b p : ℕ) → b ≤ p → place_pair which x b ≤ place_pair which x p
    unfolding place_pair pair
    place_rises b p h = omega arith

    own_sorted : (n b p : ℕ) → b ≤ p → KeysFit s n p → Sorted (place_pair which x b ∷ own n p)
    unfolding KeysFit own
    own_sorted zero b p h fit = sorted_cons (place_pair which x b) [] (λ k l. absurd (not-suc-le-zero l)) (unfold sort in sort_sorted [])
    own_sorted (suc n) b p h fit =
        let past : p ≤ key_end s p = omega (arith, key_end_lem s p) in
        by (test (key_at s p) && eqb (number (key_at s p)) x) (own n (key_end s p)) (own_sorted n b (key_end s p) (omega arith) fit.1) (own_sorted n p (key_end s p) past fit.1)
      where
        by : (t : Bool) (r : List ℕ) → Sorted (place_pair which x b ∷ r) → Sorted (place_pair which x p ∷ r) → Sorted (place_pair which x b ∷ cond t (place_pair which x p ∷ r) r)
        by true r one other = sorted_cons (place_pair which x b) (place_pair which x p ∷ r) (λ k l. le_trans (place_rises b p h) (sorted_from (place_pair which x p) r other k l)) other
        by false r one other = one

    -- each is the place of a key with the number
    own_held : (n p : ℕ) → KeysFit s n p → (y : ℕ) → 0 < count y (own n p) → Held test number s x (place_in y)
    unfolding KeysFit own count
    own_held zero p fit y h = absurd (not-suc-le-zero h)
    own_held (suc n) p fit y h = by (test (key_at s p) && eqb (number (key_at s p)) x) refl h (own_held n (key_end s p) fit.1 y)
      where
        here : test (key_at s p) && eqb (number (key_at s p)) x ≡ true → y ≡ place_pair which x p → Held test number s x (place_in y)
        here t e =
            let both = both_true (test (key_at s p)) (eqb (number (key_at s p)) x) t in
            rw (e, place_part which x p w (near n p fit))
            (record { passes = both.0; numbered = eqb-true (number (key_at s p)) x both.1; head = omega (arith, key_end_lem s p, fit.0); inside = fit.0 })

        by : (t : Bool) → test (key_at s p) && eqb (number (key_at s p)) x ≡ t → 0 < count y (cond t (place_pair which x p ∷ own n (key_end s p)) (own n (key_end s p)))
            → (0 < count y (own n (key_end s p)) → Held test number s x (place_in y)) → Held test number s x (place_in y)
        by true t h later = same_or_not y (place_pair which x p) (λ e. here t e) (λ d. let e = rw (ne_eqb y (place_pair which x p) d) at h in later (omega arith))
        by false t h later = later h

    -- the last of them is what the map has
    pub last_own : (p : ℕ) (r : List ℕ) → p < 2 ^ 32 → last_place which x (place_pair which x p ∷ r) ≡ or_else (last_place which x r) (Some p)
    unfolding last_place
    last_own p r h = rw (place_for which x p w h, place_part which x p w h)

    pub own_word : {A : Type 0} (word : Bkey → A) (n p : ℕ) → KeysFit s n p
        → last_for x (map (λ k. (number k, word k)) (keep test (keys_from s n p))) ≡ word_at word s (last_place which x (own n p))
    unfolding KeysFit own keep keys_from last_for word_at
    own_word word zero p fit = unfold last_place in refl
    own_word {A} word (suc n) p fit = by (test (key_at s p)) (own_word word n (key_end s p) fit.1)
      where
        known : Option A
        known = last_for x (map (λ k. (number k, word k)) (keep test (keys_from s n (key_end s p))))

        by : (t : Bool) → known ≡ word_at word s (last_place which x (own n (key_end s p)))
            → last_for x (map (λ k. (number k, word k)) (cond t (key_at s p ∷ keep test (keys_from s n (key_end s p))) (keep test (keys_from s n (key_end s p)))))
            ≡ word_at word s (last_place which x (cond (t && eqb (number (key_at s p)) x) (place_pair which x p ∷ own n (key_end s p)) (own n (key_end s p))))
        by true same = same_or_not (number (key_at s p)) x
            (λ e. rw (eq-eqb x (number (key_at s p)) (sym e), eq-eqb (number (key_at s p)) x e, last_own p (own n (key_end s p)) (near n p fit))
            (ap (λ (o : Option A). or_some o (Some (word (key_at s p)))) same ∙ sym (word_or word s (last_place which x (own n (key_end s p))) (Some p))))
            (λ d. rw (ne_eqb x (number (key_at s p)) (λ e. d (sym e)), ne_eqb (number (key_at s p)) x d) (some_none known ∙ same))
        by false same = same

-- ---- the laws for a caller: xs are the pairs of all keys, sorted
module _ {which : ℕ} {of : ℕ → Bkey → List ℕ} {test : Bkey → Bool} {number : Bkey → ℕ} {s : List ℕ} {n p : ℕ} {xs : List ℕ} (g : Gives which of test number) (a : AllPairs of s n p xs) where
  pub sorted_keep : (x : ℕ) → keep (is_for which x) xs ≡ own which test number s x n p
  sorted_keep x =
      let kept = keep_own which test number s x g.small a.small of g n p a.fit in
      let up : Sorted (keep (is_for which x) (gather of s n p)) = rw kept (sorted_tail (place_pair which x p) (own which test number s x n p) (own_sorted which test number s x g.small a.small n p p (le_refl p) a.fit)) in
      ap (keep (is_for which x)) a.all ∙ keep_sort (is_for which x) (gather of s n p) up ∙ kept

  -- the map has for a number what the key at its last place has
  pub find_law : {A : Type 0} (word : Bkey → A) (x : ℕ) → lookup x (map_of test number word (keys_from s n p)) ≡ word_at word s (last_place which x xs)
  unfolding map_of
  find_law word x =
      collect_lookup x (map (λ k. (number k, word k)) (keep test (keys_from s n p))) ∙ own_word which test number s x g.small a.small word n p a.fit
      ∙ ap (word_at word s) (ap (last_place which x) (sym (sorted_keep x)) ∙ last_kept which x xs)

  -- each pair of the map is the place of a key with its number
  there_held : (y : ℕ) → 0 < count y xs → which_in y ≡ which → Held test number s (number_in y) (place_in y)
  there_held y h e =
      own_held which test number s (number_in y) g.small a.small n p a.fit y
      (rw (← sorted_keep (number_in y)) (kept_there (is_for which (number_in y)) y xs (parts_for which (number_in y) y refl e) h))

  pub pair_held : (i : ℕ) → i < length xs → which_in (get_or xs i 0) ≡ which → Held test number s (number_in (get_or xs i 0)) (place_in (get_or xs i 0))
  pair_held i l e = there_held (get_or xs i 0) (there xs i l) e

  -- the last place of a number is the place of a key with it
  pub find_held : (x q : ℕ) → last_place which x xs ≡ Some q → Held test number s x q
  find_held x q e = last_holds which x (Held test number s x) xs
      (λ y h t. let both = for_parts which x y t in subst (λ (z : ℕ). Held test number s z (place_in y)) both.0 (there_held y h both.1)) q e

  -- the last places, each with what the key there has, are the map
  pub each_law : {A : Type 0} (word : Bkey → A) → map (λ e. (e.0, word (key_at s e.1))) (last_places which xs) ≡ map_of test number word (keys_from s n p)
  unfolding map_of
  each_law word =
      let sorted = sorted_by (gather of s n p) xs a.all in
      rises_same (map (λ e. (e.0, word (key_at s e.1))) (last_places which xs)) (map_of test number word (keys_from s n p))
      (map_rises (λ q. word (key_at s q)) (last_places which xs) (places_rise which g.small xs sorted))
      (collect_rises (map (λ k. (number k, word k)) (keep test (keys_from s n p))))
      (λ x. mapped_lookup word s x (last_place which x xs) (last_places which xs) (places_lookup which g.small x xs sorted) ∙ sym (find_law word x))

  -- a rule over the map is that rule over the last places
  pub each_map : {A : Type 0} (word : Bkey → A) (f : ℕ × A → List Finding)
      → each (λ _ e. f e) 0 (map_of test number word (keys_from s n p)) ≡ each (λ _ e. f (e.0, word (key_at s e.1))) 0 (last_places which xs)
  each_map word f = ap (each (λ _ e. f e) 0) (sym (each_law word)) ∙ each_mapped f (λ e. (e.0, word (key_at s e.1))) 0 (last_places which xs)

-- the same for pair i of the words, where `is_last` holds of it
pub last_held : {which : ℕ} {of : ℕ → Bkey → List ℕ} {test : Bkey → Bool} {number : Bkey → ℕ} {s : List ℕ} {n p : ℕ} → Gives which of test number
    → (w : List ℕ) (m : ℕ) → AllPairs of s n p (pairs_of w m) → (i : ℕ) → i < m → ((k : ℕ) → get_or w k 0 < 2 ^ 64) → last_at which (drop i (pairs_of w m)) ≡ true
    → Held test number s (get_or w (2 * i) 0) (get_or w (2 * i + 1) 0 % 2 ^ 32)
last_held {which = which} g w m a i l small e =
    rw (← number_at w m i l small, ← place_at w m i l small) (pair_held g a i (rw length_pairs l) (last_which w m i l which e))

-- the key there is at hand once its front is read
pub held_at : {test : Bkey → Bool} {number : Bkey → ℕ} {s : List ℕ} {x q : ℕ} {f : KeyFront} → length s ≤ 1048576 → Held test number s x q → f ≡ front_of (key_head s q) → AtKey s q f
held_at small h e = record { small = small; inside = h.inside; front = e }

-- ---- sets of numbers among the pairs
-- a pair is among those of all keys if some key gives it
pub set_law : {of : ℕ → Bkey → List ℕ} {s : List ℕ} {n p : ℕ} {xs : List ℕ} (x : ℕ) (test : Bkey → Bool) → ((p : ℕ) (k : Bkey) → p < 2 ^ 32 → has x (of p k) ≡ test k)
    → AllPairs of s n p xs → has x xs ≡ any_key test (keys_from s n p)
set_law {of} {s} {n} {p} x test one a = ap (has x) a.all ∙ has_sort x (gather of s n p) ∙ any_by x of test s a.small one n p a.fit
