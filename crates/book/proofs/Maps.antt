-- What an answer of a search says of the map.
use Rattle.std.specs.Prelude.{None, Option, Some}
use Prim.Native.Nat.{ℕ}
use mathlib.Core.Path.{◌≡◌, refl}
use native.Mathlib.Omega.{arith}

pub word_is : (o : Option ℕ) {x : ℕ} → o ≡ Some x → o ≡ Some x
word_is None e = let z : ◌≡◌ {A = ℕ} 0 1 = cc in absurd (omega arith)
word_is (Some y) e = cc

pub word_absent : (o : Option ℕ) → o ≡ None → o ≡ None
word_absent None e = refl
word_absent (Some y) e = let z : ◌≡◌ {A = ℕ} 0 1 = cc in absurd (omega arith)

pub byte_is : (o : Option ℕ) {x : ℕ} → o ≡ Some x → o ≡ Some x
byte_is None e = let z : ◌≡◌ {A = ℕ} 0 1 = cc in absurd (omega arith)
byte_is (Some y) e = cc

pub byte_absent : (o : Option ℕ) → o ≡ None → o ≡ None
byte_absent None e = refl
byte_absent (Some y) e = let z : ◌≡◌ {A = ℕ} 0 1 = cc in absurd (omega arith)
