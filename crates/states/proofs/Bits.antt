-- The number of bits set in an exclusive or is the distance of its two words; the nearest state over a list.
use Prim.Native.Nat.{ℕ, zero, suc, ◌+◌, ◌/◌, ◌%◌, ◌^◌, ◌<◌}
use mathlib.Core.Path.{◌≡◌, refl, sym, ap, ap₂, ◌∙◌}
use mathlib.Core.Bool.{cond}
use mathlib.Core.List.{List, [], ◌∷◌}
use Rattle.std.proofs.Common.{reverse}
use Rattle.std.proofs.lemmas.Grind.{fold-append}
use Rattle.std.proofs.lemmas.List.{reverse-append}
use Rattle.std.specs.List.{fold}
use Rattle.states.specs.declared.Nearest.{Nearest}
use native.Mathlib.Nat.{mod-lt, mod-eq_of_lt, mod-one}
use native.Mathlib.Omega.{arith}
use lib.Dec.{eqb}
use lib.Pow.{pow_pos, mod-pow-add}
use lib.Bits.{bit_xor, xor_shr, xor_mod, xor_lt}
use lib.Count.{ones, ones_cat}
use Rattle.states.specs.StateDistance.{bits_apart, distance, nearer, state_distance}

-- two digits
digits_apart : (a b : ℕ) → a < 2 → b < 2 → ones (bit_xor a b) ≡ cond (eqb a b) 0 1
unfolding ones
digits_apart zero zero h k = refl
digits_apart zero (suc zero) h k = refl
digits_apart (suc zero) zero h k = refl
digits_apart (suc zero) (suc zero) h k = refl
digits_apart zero (suc (suc b)) h k = absurd (omega arith)
digits_apart (suc zero) (suc (suc b)) h k = absurd (omega arith)
digits_apart (suc (suc a)) b h k = absurd (omega arith)

-- the low n bits of two numbers
low_apart : (n x y : ℕ) → ones (bit_xor x y % 2 ^ n) ≡ bits_apart n x y
unfolding bits_apart ones
low_apart zero x y = ap ones (mod-one (bit_xor x y))
low_apart (suc n) x y =
    let top : bit_xor x y / 2 ^ n % 2 ≡ bit_xor (x / 2 ^ n % 2) (y / 2 ^ n % 2) = ap (λ (z : ℕ). z % 2) (xor_shr x y n) ∙ xor_mod (x / 2 ^ n) (y / 2 ^ n) 1 in
    let more : suc n ≡ 1 + n = omega arith in
    ap (λ (k : ℕ). ones (bit_xor x y % 2 ^ k)) more ∙ ap ones (mod-pow-add (bit_xor x y) 1 n)
    ∙ ones_cat n (bit_xor x y / 2 ^ n % 2) (bit_xor x y % 2 ^ n) (mod-lt (bit_xor x y) (pow_pos n))
    ∙ ap₂ (λ (a b : ℕ). a + b) (ap ones top ∙ digits_apart (x / 2 ^ n % 2) (y / 2 ^ n % 2) (mod-lt (x / 2 ^ n) (pow_pos 1)) (mod-lt (y / 2 ^ n) (pow_pos 1))) (low_apart n x y)
    ∙ omega arith

-- two words of 32 bits
pub ones_apart : (x y : ℕ) → x < 2 ^ 32 → y < 2 ^ 32 → ones (bit_xor x y) ≡ distance x y
ones_apart x y h k = ap ones (sym (mod-eq_of_lt (xor_lt 32 x y h k))) ∙ low_apart 32 x y

-- ---- the nearest state of any list

-- the nearer of a state and the nearest so far
abbrev pub nearest_of : ℕ → Nearest → ℕ → Nearest
nearest_of word nearest state = nearer (record { distance = distance word state; state = state }) nearest

-- from the last state to the first
from_last : (word : ℕ) (states : List ℕ) → fold (nearest_of word) (record { distance = 32; state = 0 }) (reverse states) ≡ state_distance word states
unfolding state_distance
from_last word [] = refl
from_last word (state ∷ states) =
    ap (fold (nearest_of word) (record { distance = 32; state = 0 })) (reverse-append (state ∷ []) states)
    ∙ fold-append (nearest_of word) (record { distance = 32; state = 0 }) (reverse states) (state ∷ [])
    ∙ ap (λ (n : Nearest). nearest_of word n state) (from_last word states)

pub fold_states : (word : ℕ) (states : List ℕ) {r : Nearest} → r ≡ fold (nearest_of word) (record { distance = 32; state = 0 }) (reverse states) → r ≡ state_distance word states
fold_states word states e = e ∙ from_last word states
