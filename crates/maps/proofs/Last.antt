-- Laws of the last places of sorted pairs: they rise, they have what `last_place` finds, and a walk goes through them pair after pair.
use Rattle.std.specs.Prelude.{None, Option, Some}
use Prim.Native.Nat.{ℕ, zero, suc, ◌+◌, ◌*◌, ◌/◌, ◌%◌, ◌^◌, ◌≤◌, ◌<◌, zero-le, suc-le-suc}
use mathlib.Core.Path.{◌≡◌, refl, sym, ap, ◌∙◌}
use mathlib.Core.Bool.{Bool, true, false, true≢false, cond, not, ◌&&◌}
use mathlib.Core.Logic.{⊎_elim}
use mathlib.Core.List.{List, [], ◌∷◌, ◌++◌}
use native.Mathlib.Nat.{le_trans, le_of_suc-le-suc, not-suc-le-zero}
use native.Mathlib.Omega.{arith}
use lib.ListN.{length, get_or, drop}
use lib.Dec.{eqb}
use borrow.Author.Tests.{eq-eqb, ne_eqb, eqb-true}
use Rattle.findings.specs.Findings.{Finding, only, each}
use Rattle.findings.proofs.Walk.{drop_at, drop_past, each_any}
use Rattle.pairs.specs.Pairs.{pair_at, pairs_of, Sorted, or_else, pair}
use Rattle.pairs.proofs.Order.{tested, both_true, same_or_not, sorted_tail, sorted_least}
use Rattle.pairs.proofs.Words.{pair_first, pair_second, first, second, length_pairs, pairs_at}
use Rattle.book.specs.Maps.{lookup}
use Rattle.maps.specs.Places.{number_in, which_in, place_in, is_for, last_place, goes_on, last_places}
use Rattle.maps.specs.Sorted.{last_at}
use Rattle.maps.proofs.Maps.{lookup_here, lookup_past, Above, Rises}
use Rattle.maps.proofs.Pairs.{for_parts, parts_for, for_from, for_below, between_for, not_for, last_past, last_here}

-- a place, as what a map has
unfoldable pub place_of : Option ℕ → Option ℕ
place_of None = None
place_of (Some q) = Some q

pub sorted_from : (z : ℕ) (zs : List ℕ) → Sorted (z ∷ zs) → (k : ℕ) → k < length (z ∷ zs) → z ≤ get_or (z ∷ zs) k 0
unfolding Sorted
sorted_from z zs s k l = s zero k zero-le l

or_is : (m : Option ℕ) (q : ℕ) (other : Option ℕ) → or_else (or_else m (Some q)) other ≡ or_else m (Some q)
unfolding or_else
or_is (Some v) q other = refl
or_is None q other = refl

numbers_rise : (x y : ℕ) → x ≤ y → (number_in y ≡ number_in x → ⊥) → number_in x < number_in y
unfolding number_in
numbers_rise x y h d = omega arith

module _ (which : ℕ) (small : which < 2 ^ 32) where
  -- past the last pair of a number there is none of it
  ended : (y : ℕ) (ys : List ℕ) → Sorted (y ∷ ys) → which_in y ≡ which → goes_on which (number_in y) ys ≡ false
      → (k : ℕ) → k < length ys → is_for which (number_in y) (get_or ys k 0) ≡ false
  unfolding goes_on
  ended y [] s e g k l = absurd (not-suc-le-zero l)
  ended y (z ∷ zs) s e g k l = not_for which (number_in y) (get_or (z ∷ zs) k 0) (λ t.
      let up : y ≤ z = sorted_least y (z ∷ zs) s zero (suc-le-suc zero-le) in
      let on : z ≤ get_or (z ∷ zs) k 0 = sorted_from z zs (sorted_tail y (z ∷ zs) s) k l in
      let own = parts_for which (number_in y) y refl e in
      true≢false (sym (between_for which (number_in y) z small (le_trans (for_from which (number_in y) y own) up)
      (omega (arith, for_below which (number_in y) (get_or (z ∷ zs) k 0) t))) ∙ g))

  after : (y : ℕ) (ys : List ℕ) → Sorted (y ∷ ys) → which_in y ≡ which → goes_on which (number_in y) ys ≡ false
      → (k : ℕ) → 0 < k → k < length (y ∷ ys) → is_for which (number_in y) (get_or (y ∷ ys) k 0) ≡ false
  after y ys s e g zero a l = absurd (not-suc-le-zero a)
  after y ys s e g (suc k) a l = ended y ys s e g k (le_of_suc-le-suc l)

  -- where the number goes on, its last pair is there
  goes_last : (x : ℕ) (ys : List ℕ) (m : Option ℕ) → goes_on which x ys ≡ true → or_else (last_place which x ys) m ≡ last_place which x ys
  unfolding goes_on last_place
  goes_last x [] m g = absurd (true≢false (sym g))
  goes_last x (z ∷ zs) m g = rw g (or_is (last_place which x zs) (place_in z) m)

  pass_by : (x y : ℕ) (ys : List ℕ) → goes_on which x ys ≡ true → last_place which x (y ∷ ys) ≡ last_place which x ys
  unfolding last_place
  pass_by x y ys g = goes_last x ys (cond (is_for which x y) (Some (place_in y)) None) g

  -- a pair that is not its number's last, and one that is
  places_past : (y : ℕ) (ys : List ℕ) → last_at which (y ∷ ys) ≡ false → last_places which (y ∷ ys) ≡ last_places which ys
  unfolding last_places last_at
  places_past y ys e = rw e

  places_here : (y : ℕ) (ys : List ℕ) → last_at which (y ∷ ys) ≡ true → last_places which (y ∷ ys) ≡ (number_in y, place_in y) ∷ last_places which ys
  unfolding last_places last_at
  places_here y ys e = rw e

  -- by what a pair is: of another map, followed by one of its number, or the last
  by_pair : {P : Type 0} (y : ℕ) (ys : List ℕ) → (last_at which (y ∷ ys) ≡ false → (which_in y ≡ which → ⊥) → P)
      → (last_at which (y ∷ ys) ≡ false → goes_on which (number_in y) ys ≡ true → P)
      → (last_at which (y ∷ ys) ≡ true → which_in y ≡ which → goes_on which (number_in y) ys ≡ false → P) → P
  unfolding last_at
  by_pair y ys other on last = same_or_not (which_in y) which
      (λ e. ⊎_elim
      (λ g. on (rw (eq-eqb (which_in y) which e) (ap not g)) g)
      (λ g. last (rw (eq-eqb (which_in y) which e) (ap not g)) e g)
      (tested (goes_on which (number_in y) ys)))
      (λ d. other (rw (ne_eqb (which_in y) which d)) d)

  -- what the last places have for a number is its last place
  pub places_lookup : (x : ℕ) (xs : List ℕ) → Sorted xs → lookup x (last_places which xs) ≡ place_of (last_place which x xs)
  unfolding place_of
  places_lookup x [] s = unfold lookup last_places last_place in refl
  places_lookup x (y ∷ ys) s =
      let rest = places_lookup x ys (sorted_tail y ys s) in
      let past : is_for which x y ≡ false → lookup x (last_places which ys) ≡ place_of (last_place which x (y ∷ ys)) = λ e. rest ∙ ap place_of (sym (last_past which x y ys e)) in
      let differs : (x ≡ number_in y → ⊥) → is_for which x y ≡ false = λ d. not_for which x y (λ t. d (sym (for_parts which x y t).0)) in
      by_pair y ys
      (λ e d. rw (places_past y ys e) (past (not_for which x y (λ t. d (for_parts which x y t).1))))
      (λ e g. rw (places_past y ys e) (same_or_not x (number_in y)
      (λ q. rest ∙ ap place_of (sym (pass_by x y ys (rw q g))))
      (λ d. past (differs d))))
      (λ e q g. rw (places_here y ys e) (same_or_not x (number_in y)
      (λ z. lookup_here x (number_in y, place_in y) (last_places which ys) z ∙ ap place_of (sym
      (last_here which x (y ∷ ys) zero (suc-le-suc zero-le) (parts_for which x y (sym z) q) (λ k a l. rw z (after y ys s q g k a l)))))
      (λ d. lookup_past x (number_in y, place_in y) (last_places which ys) d ∙ past (differs d))))

  -- they rise
  places_above : (x : ℕ) (xs : List ℕ) → ((k : ℕ) → k < length xs → which_in (get_or xs k 0) ≡ which → x < number_in (get_or xs k 0)) → Above x (last_places which xs)
  unfolding Above
  places_above x [] h = unfold last_places in tt
  places_above x (y ∷ ys) h =
      let rest = places_above x ys (λ k l. h (suc k) (suc-le-suc l)) in
      by_pair y ys (λ e d. rw (places_past y ys e) rest) (λ e g. rw (places_past y ys e) rest) (λ e q g. rw (places_here y ys e) (h zero (suc-le-suc zero-le) q))

  pub places_rise : (xs : List ℕ) → Sorted xs → Rises (last_places which xs)
  unfolding Rises
  places_rise [] s = unfold last_places in tt
  places_rise (y ∷ ys) s =
      let rest = places_rise ys (sorted_tail y ys s) in
      by_pair y ys
      (λ e d. rw (places_past y ys e) rest)
      (λ e g. rw (places_past y ys e) rest)
      (λ e q g. rw (places_here y ys e) (
        places_above (number_in y) ys (λ k l w. numbers_rise y (get_or ys k 0) (sorted_least y ys s k l)
            (λ z. true≢false (sym (parts_for which (number_in y) (get_or ys k 0) z w) ∙ ended y ys s q g k l))),
        rest,
      ))

each_cond : {A : Type 0} (f : A → List Finding) (t : Bool) (x : A) (xs : List A) → each (λ _ e. f e) 0 (cond t (x ∷ xs) xs) ≡ only t (f x) ++ each (λ _ e. f e) 0 xs
unfolding each only
each_cond f true x xs = ap (λ (l : List Finding). f x ++ l) (each_any (λ _ e. f e) (λ i e. refl) 1 xs)
each_cond f false x xs = refl

by_first : (which x : ℕ) (xs : List ℕ) → last_at which (x ∷ xs) ≡ true → which_in x ≡ which
unfolding last_at
by_first which x xs e = eqb-true (which_in x) which (both_true (eqb (which_in x) which) (not (goes_on which (number_in x) xs)) e).0

-- ---- pair i of the words, and a walk from it on
module _ (w : List ℕ) (n : ℕ) (i : ℕ) (l : i < n) where
  left_at : drop i (pairs_of w n) ≡ get_or (pairs_of w n) i 0 ∷ drop (i + 1) (pairs_of w n)
  left_at = drop_at (pairs_of w n) i 0 (rw length_pairs l)

  -- whether it is of a map and has a number
  pub goes_at : (which number : ℕ) → is_for which number (pair_at w i) ≡ goes_on which number (drop i (pairs_of w n))
  unfolding goes_on
  goes_at which number = rw (left_at, pairs_at w n i l)

  -- the map of one that is the last of its number
  pub last_which : (which : ℕ) → last_at which (drop i (pairs_of w n)) ≡ true → which_in (get_or (pairs_of w n) i 0) ≡ which
  last_which which e = by_first which _ _ (rw left_at at e)

module _ (w : List ℕ) (n : ℕ) (i : ℕ) (l : i < n) (small : (k : ℕ) → get_or w k 0 < 2 ^ 64) where
  pub number_at : number_in (get_or (pairs_of w n) i 0) ≡ get_or w (2 * i) 0
  unfolding number_in
  number_at = first w n small i l

  pub place_at : place_in (get_or (pairs_of w n) i 0) ≡ get_or w (2 * i + 1) 0 % 2 ^ 32
  unfolding place_in
  place_at = omega (arith, second w n small i l)

  -- whether it is the last of its number
  pub last_is : (which : ℕ) {a b : Bool} → a ≡ is_for which (get_or w (2 * i) 0) (pair_at w i) → b ≡ goes_on which (get_or w (2 * i) 0) (drop (i + 1) (pairs_of w n)) → a && not b ≡ last_at which (drop i (pairs_of w n))
  unfolding last_at is_for
  last_is which own more = rw (own, more, ← pairs_at w n i l, left_at w n i l, number_at, eq-eqb (get_or w (2 * i) 0) (get_or w (2 * i) 0) refl)

  -- what is left from it on
  pub places_next : (which : ℕ) → last_places which (drop i (pairs_of w n))
      ≡ cond (last_at which (drop i (pairs_of w n))) ((get_or w (2 * i) 0, get_or w (2 * i + 1) 0 % 2 ^ 32) ∷ last_places which (drop (i + 1) (pairs_of w n))) (last_places which (drop (i + 1) (pairs_of w n)))
  unfolding last_places last_at
  places_next which = rw (left_at w n i l, number_at, place_at)

  -- the findings of a rule over the last places
  pub each_last : (which : ℕ) (f : ℕ × ℕ → List Finding) → each (λ _ e. f e) 0 (last_places which (drop i (pairs_of w n)))
      ≡ only (last_at which (drop i (pairs_of w n))) (f (get_or w (2 * i) 0, get_or w (2 * i + 1) 0 % 2 ^ 32)) ++ each (λ _ e. f e) 0 (last_places which (drop (i + 1) (pairs_of w n)))
  each_last which f =
      ap (each (λ _ e. f e) 0) (places_next which)
      ∙ each_cond f (last_at which (drop i (pairs_of w n))) (get_or w (2 * i) 0, get_or w (2 * i + 1) 0 % 2 ^ 32) (last_places which (drop (i + 1) (pairs_of w n)))

-- the place in a pair, by its second word
pub place_second : (w : List ℕ) (n i : ℕ) → i < n → place_in (get_or (pairs_of w n) i 0) ≡ get_or w (2 * i + 1) 0 % 2 ^ 32
unfolding place_in pair_at pair
place_second w n i l = rw (pairs_at w n i l) (omega arith)

-- the words of a pair
pub words_for : (w : List ℕ) (i which number : ℕ) → get_or w (2 * i + 1) 0 < 2 ^ 64
    → eqb (get_or w (2 * i) 0) number && eqb (get_or w (2 * i + 1) 0 / 2 ^ 32) which ≡ is_for which number (pair_at w i)
unfolding is_for pair_at number_in which_in
words_for w i which number h = rw (pair_first (get_or w (2 * i) 0) (get_or w (2 * i + 1) 0) h, pair_second (get_or w (2 * i) 0) (get_or w (2 * i + 1) 0) h)

-- past the last pair
pub goes_past : (w : List ℕ) (n i which number : ℕ) → n ≤ i → false ≡ goes_on which number (drop i (pairs_of w n))
unfolding goes_on
goes_past w n i which number h = rw (drop_past (pairs_of w n) i (omega (arith, length_pairs w n)))

pub each_ended : (f : ℕ × ℕ → List Finding) (w : List ℕ) (n which i : ℕ) → n ≤ i → each (λ _ e. f e) 0 (last_places which (drop i (pairs_of w n))) ≡ []
unfolding last_places each
each_ended f w n which i h = rw (drop_past (pairs_of w n) i (omega (arith, length_pairs w n)))
