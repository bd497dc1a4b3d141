-- What a read gave, by the test of its answer.
use Prim.Native.Nat.{ℕ, min, ◌≤◌}
use mathlib.Core.Path.{◌≡◌, refl, ap, ◌∙◌}
use mathlib.Core.Bool.{true, false}
use native.Mathlib.Omega.{arith}
use lib.IntN.{ℤ, pos, negsuc}
use lib.Signed.{lt_z}
use mir.Syntax.{w64}
use mir.Val.{SFits, of_z, to_z}
use mir.Facts.{to_z-of_z}
use borrow.Author.Tests.{ltb-true}
use Rattle.io.specs.Counts.{clamp_len}
use Rattle.std.specs.Prelude.{Result, Ok, Err}
use Rattle.report.specs.declared.ReadError.{ReadError}
use Rattle.report.specs.Reading.{gave_of}

-- an error, and so many bytes
abbrev pub error : Result ℕ ReadError
error = Err (record {})

abbrev pub bytes : ℕ → Result ℕ ReadError
bytes n = Ok n

error_by : (z : ℤ) (most : ℕ) → lt_z z (pos 0) ≡ true → error ≡ gave_of z most
unfolding gave_of
error_by (pos k) most e = absurd (omega (arith, ltb-true k 0 e))
error_by (negsuc k) most e = refl

bytes_by : (z : ℤ) (most : ℕ) → lt_z z (pos 0) ≡ false → bytes (clamp_len z most) ≡ gave_of z most
unfolding gave_of
bytes_by (pos k) most e = refl
bytes_by (negsuc k) most e = let clash : ◌≡◌ {A = ℕ} 0 1 = cc in absurd (omega arith)

-- the test and the count read the answer back from its bits
module _ (z : ℤ) (most : ℕ) (fits : SFits w64 z) where
  read_back : gave_of (to_z w64 (of_z w64 z)) most ≡ gave_of z most
  read_back = ap (λ (a : ℤ). gave_of a most) (to_z-of_z fits)

  pub gave_error : lt_z (to_z w64 (of_z w64 z)) (pos 0) ≡ true → error ≡ gave_of z most
  gave_error e = error_by (to_z w64 (of_z w64 z)) most e ∙ read_back

  pub gave_bytes : (n : ℕ) → lt_z (to_z w64 (of_z w64 z)) (pos 0) ≡ false → n ≡ clamp_len (to_z w64 (of_z w64 z)) most → bytes n ≡ gave_of z most
  gave_bytes n e same = ap bytes same ∙ bytes_by (to_z w64 (of_z w64 z)) most e ∙ read_back

-- bytes are no more than there is room for
pub gave_most : (z : ℤ) (most n : ℕ) → gave_of z most ≡ bytes n → n ≤ most
unfolding gave_of
gave_most (pos k) most n e = let same : n ≡ min k most = cc in omega arith
gave_most (negsuc k) most n e = let clash : ◌≡◌ {A = ℕ} 0 1 = cc in absurd (omega arith)
