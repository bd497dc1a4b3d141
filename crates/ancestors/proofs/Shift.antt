-- Laws of the loops over an array of ids.
use Prim.Native.Nat.{ℕ, suc, ◌+◌, ◌-◌, ◌≤◌, ◌<◌}
use mathlib.Core.Path.{◌≡◌, sym, ap, ◌∙◌}
use mathlib.Core.Bool.{◌||◌, or-false}
use mathlib.Core.List.{List, [], ◌∷◌, ◌++◌, append_assoc}
use native.Mathlib.Numerals.{add-one}
use native.Mathlib.Omega.{arith}
use lib.ListN.{length, get_or, set, take, drop, length-take, length-drop, length-append}
use lib.Seq.{take-suc, drop-cons, set_at, take_at, get_or-append-add, get_or-drop}
use lib.Dec.{eqb}
use Rattle.pairs.specs.Pairs.{has}
use Rattle.pairs.proofs.Bounds.{has_append}

-- whether x is among the first i ids, and the next
pub has_more : (x : ℕ) (ids : List ℕ) (i : ℕ) → i < length ids → has x (take i ids) || eqb x (get_or ids i 0) ≡ has x (take (i + 1) ids)
unfolding has
has_more x ids i h = sym (rw (add-one i, take-suc ids i 0 h, has_append x (take i ids) (get_or ids i 0 ∷ []), or-false))

-- an array whose first i places are filled from a list; the rest is as it was
module _ (xs array : List ℕ) where
  abbrev pub filled : ℕ → List ℕ
  filled i = take i xs ++ drop i array

  pub filled_more : (i : ℕ) → i < length xs → i < length array → set (filled i) i (get_or xs i 0) ≡ filled (i + 1)
  filled_more i h k =
      let size : length (take i xs) ≡ i = omega (arith, length-take i xs) in
      rw (add-one i, drop-cons array i 0 k, take-suc xs i 0 h)
      (set_at (take i xs) (get_or array i 0) (drop (suc i) array) (get_or xs i 0) i size ∙ sym (append_assoc (take i xs) (get_or xs i 0 ∷ []) (drop (suc i) array)))

  -- what is not filled yet
  pub filled_rest : (i k : ℕ) → i ≤ length xs → i ≤ k → get_or (filled i) k 0 ≡ get_or array k 0
  filled_rest i k h l =
      let size : length (take i xs) ≡ i = omega (arith, length-take i xs) in
      let place : k ≡ length (take i xs) + (k - i) = omega arith in
      let past : i + (k - i) ≡ k = omega arith in
      ap (λ (j : ℕ). get_or (filled i) j 0) place ∙ get_or-append-add (take i xs) (drop i array) (k - i) 0 ∙ get_or-drop i array (k - i) 0
      ∙ ap (λ (j : ℕ). get_or array j 0) past

  pub filled_take : (i : ℕ) → i ≤ length xs → take i (filled i) ≡ take i xs
  filled_take i h = take_at (take i xs) (drop i array) i (omega (arith, length-take i xs))

  pub filled_length : (i : ℕ) → i ≤ length xs → i ≤ length array → length (filled i) ≡ length array
  filled_length i h k = omega (arith, length-append (take i xs) (drop i array), length-take i xs, length-drop i array)
