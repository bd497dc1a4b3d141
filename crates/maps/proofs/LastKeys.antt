-- Laws of the last key of a number: it is what a map made from the keys has, what the pairs of a map in the work words have, and for
-- two tests the later of two.
use Rattle.std.specs.Prelude.{None, Option, Some}
use Prim.Native.Nat.{ℕ, zero, suc, ◌^◌, ◌≤◌, ◌<◌}
use mathlib.Core.Path.{◌≡◌, refl, sym, ap, ◌∙◌}
use mathlib.Core.Bool.{Bool, true, false, cond, ◌&&◌, ◌||◌}
use mathlib.Core.List.{List, ◌∷◌}
use native.Mathlib.Omega.{arith}
use lib.ListN.{length}
use lib.Dec.{eqb, leb}
use borrow.Author.Tests.{eqb-true, le-leb, lt-leb}
use Rattle.pairs.specs.Pairs.{or_else}
use Rattle.pairs.proofs.Order.{both_true}
use Rattle.book.specs.Maps.{lookup}
use Rattle.book.specs.KeyMaps.{map_of}
use Rattle.book.specs.Book.{Bkey, key_end, keys_from}
use Rattle.book.specs.Walk.{KeysFit}
use Rattle.book.proofs.Laws.{key_end_lem}
use Rattle.walk.specs.Keys.{key_at}
use Rattle.maps.specs.Places.{place_pair, last_place}
use Rattle.maps.specs.Sorted.{AllPairs}
use Rattle.maps.specs.LastKeys.{last_key, later, word_at}
use Rattle.maps.proofs.Maps.{collect_lookup}
use Rattle.maps.proofs.Pairs.{last_kept}
use Rattle.maps.proofs.Places.{Gives, Held, own, last_own, own_word, sorted_keep}

-- ---- the last of a map's pairs of a number, in the keys' order, is the last key's
own_last : (which : ℕ) (test : Bkey → Bool) (number : Bkey → ℕ) (s : List ℕ) (x : ℕ) → which < 2 ^ 32 → length s ≤ 1048576 → (n p : ℕ) → KeysFit s n p
    → last_place which x (own which test number s x n p) ≡ last_key test number s x n p
unfolding own last_key KeysFit
own_last which test number s x w few zero p fit = unfold last_place in refl
own_last which test number s x w few (suc n) p fit =
    by (test (key_at s p) && eqb (number (key_at s p)) x) (own_last which test number s x w few n (key_end s p) fit.1)
  where
    or-absent : (m : Option ℕ) → m ≡ or_else m None
    or-absent (Some q) = unfold or_else in refl
    or-absent None = unfold or_else in refl

    by : (t : Bool) → last_place which x (own which test number s x n (key_end s p)) ≡ last_key test number s x n (key_end s p)
        → last_place which x (cond t (place_pair which x p ∷ own which test number s x n (key_end s p)) (own which test number s x n (key_end s p)))
        ≡ or_else (last_key test number s x n (key_end s p)) (cond t (Some p) None)
    by true e =
        last_own which test number s x w few p (own which test number s x n (key_end s p)) (omega (arith, key_end_lem s p, fit.0))
        ∙ ap (λ (m : Option ℕ). or_else m (Some p)) e
    by false e = e ∙ or-absent (last_key test number s x n (key_end s p))

-- ---- what a map made from the keys has
pub key_law : {A : Type 0} (test : Bkey → Bool) (number : Bkey → ℕ) (word : Bkey → A) (s : List ℕ) (x n p : ℕ) → length s ≤ 1048576 → KeysFit s n p
    → lookup x (map_of test number word (keys_from s n p)) ≡ word_at word s (last_key test number s x n p)
unfolding map_of
key_law test number word s x n p few fit =
    collect_lookup x _ ∙ own_word 0 test number s x (omega arith) few word n p fit ∙ ap (word_at word s) (own_last 0 test number s x (omega arith) few n p fit)

-- ---- what the pairs of a map in the work words have
pub place_law : {which : ℕ} {of : ℕ → Bkey → List ℕ} {test : Bkey → Bool} {number : Bkey → ℕ} {s : List ℕ} {n p : ℕ} {xs : List ℕ}
    → Gives which of test number → AllPairs of s n p xs → (x : ℕ) → last_place which x xs ≡ last_key test number s x n p
place_law {which} {of} {test} {number} {s} {n} {p} {xs} g a x =
    sym (last_kept which x xs) ∙ ap (last_place which x) (sorted_keep g a x) ∙ own_last which test number s x g.small a.small n p a.fit

-- ---- the last key is one of the book that passes, with the number
module _ (test : Bkey → Bool) (number : Bkey → ℕ) (s : List ℕ) (x : ℕ) where
  or_cases : (P : ℕ → Type 0) (m : Option ℕ) (t : Bool) (p q : ℕ) → or_else m (cond t (Some p) None) ≡ Some q → (m ≡ Some q → P q) → (t ≡ true → P p) → P q
  unfolding or_else
  or_cases P (Some v) t p q e h k = h e
  or_cases P None true p q e h k = let same : p ≡ q = cc in rw (← same) (k refl)
  or_cases P None false p q e h k = let z : ◌≡◌ {A = ℕ} 0 1 = cc in absurd (omega arith)

  pub key_held : (n p : ℕ) → KeysFit s n p → (q : ℕ) → last_key test number s x n p ≡ Some q → Held test number s x q
  unfolding KeysFit last_key
  key_held zero p fit q e = let z : ◌≡◌ {A = ℕ} 0 1 = cc in absurd (omega arith)
  key_held (suc n) p fit q e = or_cases (Held test number s x) (last_key test number s x n (key_end s p)) _ p q e
      (λ h. key_held n (key_end s p) fit.1 q h)
      (λ t.
      let both = both_true (test (key_at s p)) (eqb (number (key_at s p)) x) t in
      record { passes = both.0; numbered = eqb-true (number (key_at s p)) x both.1; head = omega (arith, key_end_lem s p, fit.0); inside = fit.0 })

  -- it stands no earlier than the keys begin
  pub key_from : (n p : ℕ) → (q : ℕ) → last_key test number s x n p ≡ Some q → p ≤ q
  unfolding last_key
  key_from zero p q e = let z : ◌≡◌ {A = ℕ} 0 1 = cc in absurd (omega arith)
  key_from (suc n) p q e = or_cases (λ (r : ℕ). p ≤ r) (last_key test number s x n (key_end s p)) (test (key_at s p) && eqb (number (key_at s p)) x) p q e
      (λ h. omega (arith, key_end_lem s p, key_from n (key_end s p) q h))
      (λ t. omega arith)

-- a test that says the same of every key
pub key_same : (test other : Bkey → Bool) (number : Bkey → ℕ) (s : List ℕ) (x : ℕ) → ((k : Bkey) → test k ≡ other k) → (n p : ℕ) → last_key test number s x n p ≡ last_key other number s x n p
unfolding last_key
key_same test other number s x h zero p = refl
key_same test other number s x h (suc n) p = rw (h (key_at s p), key_same test other number s x h n (key_end s p))

-- ---- the last key that passes one of two tests is the later of the last that pass each
later_turn : (a b : Option ℕ) (t u : Bool) (p : ℕ) → ((q : ℕ) → a ≡ Some q → p < q) → ((q : ℕ) → b ≡ Some q → p < q)
    → or_else (later a b) (cond (t || u) (Some p) None) ≡ later (or_else a (cond t (Some p) None)) (or_else b (cond u (Some p) None))
unfolding later or_else
later_turn None None true true p f g = rw (le-leb p p (omega arith))
later_turn None None true false p f g = refl
later_turn None None false true p f g = refl
later_turn None None false false p f g = refl
later_turn None (Some r) true u p f g = rw (le-leb p r (omega (arith, g r refl)))
later_turn None (Some r) false u p f g = refl
later_turn (Some q) None t true p f g = rw (lt-leb q p (f q refl))
later_turn (Some q) None t false p f g = refl
later_turn (Some q) (Some r) t u p f g = one (leb q r)
  where
    one : (c : Bool) → or_else (cond c (Some r) (Some q)) (cond (t || u) (Some p) None) ≡ cond c (Some r) (Some q)
    one true = refl
    one false = refl

pub key_later : (test other : Bkey → Bool) (number : Bkey → ℕ) (s : List ℕ) (x n p : ℕ)
    → last_key (λ k. test k || other k) number s x n p ≡ later (last_key test number s x n p) (last_key other number s x n p)
unfolding last_key
key_later test other number s x zero p = unfold later in refl
key_later test other number s x (suc n) p =
    let k = key_at s p in
    let same = eqb (number k) x in
    let past : (t : Bkey → Bool) (q : ℕ) → last_key t number s x n (key_end s p) ≡ Some q → p < q = λ t q e. omega (arith, key_end_lem s p, key_from t number s x n (key_end s p) q e) in
    rw (key_later test other number s x n (key_end s p))
    (ap (λ (c : Bool). or_else (later (last_key test number s x n (key_end s p)) (last_key other number s x n (key_end s p))) (cond c (Some p) None)) (spread (test k) (other k) same)
    ∙ later_turn (last_key test number s x n (key_end s p)) (last_key other number s x n (key_end s p)) (test k && same) (other k && same) p (past test) (past other))
  where
    spread : (a b c : Bool) → (a || b) && c ≡ (a && c) || (b && c)
    spread true true true = refl
    spread true true false = refl
    spread true false true = refl
    spread true false false = refl
    spread false true true = refl
    spread false true false = refl
    spread false false true = refl
    spread false false false = refl
