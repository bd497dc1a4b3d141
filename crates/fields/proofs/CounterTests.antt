-- Tests for the number of counters that a value holds, by its length in bytes.
use mathlib.Core.Path.{◌≡◌, refl, sym}
use mathlib.Core.Bool.{Bool, true, false}
use mathlib.Core.Logic.Iff
use mathlib.Core.Logic.{◌↔◌}
use Prim.Native.Nat.{ℕ, ◌/◌, ◌≤◌, ◌<◌}
use lib.Dec.{eqb, ltb}
use borrow.Author.Tests.{eqb-true, eq-eqb, ltb-true, lt-ltb}
use Rattle.fields.proofs.Counters.{counters_by_length}

-- tests that hold of the same
same : (t u : Bool) → (t ≡ true ↔ u ≡ true) → t ≡ u
same true u h = sym (h.0 refl)
same false true h = h.1 refl
same false false h = refl

-- so a test for such a length is the test for that quotient
pub none_by_length : (bytes : ℕ) {test : Bool} → (test ≡ true ↔ bytes < 8) → test ≡ eqb (bytes / 8) 0
none_by_length bytes h = same _ _ (Iff.trans h (Iff.trans (counters_by_length bytes).0 (eq-eqb _ _, eqb-true _ _)))

pub over_by_length : (bytes : ℕ) {test : Bool} → (test ≡ true ↔ 32 ≤ bytes) → test ≡ ltb 3 (bytes / 8)
over_by_length bytes h = same _ _ (Iff.trans h (Iff.trans (counters_by_length bytes).1 (lt-ltb _ _, ltb-true _ _)))
