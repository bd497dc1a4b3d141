-- A key of no btree and type that the rules on fields and on state words judge has no finding of theirs.
use Prim.Native.Nat.{ℕ}
use mathlib.Core.Path.{◌≡◌, refl, sym, ap₂, ◌∙◌}
use mathlib.Core.Bool.{true, false, true≢false}
use mathlib.Core.Logic.{⊎_elim}
use mathlib.Core.List.{List, [], ◌∷◌}
use native.Mathlib.Omega.{arith}
use lib.ListN.{length}
use lib.Dec.{eqb}
use borrow.Author.Tests.{eqb-true, le-ltb}
use Rattle.findings.specs.Findings.{when, only}
use Rattle.pairs.proofs.Order.{tested, both_true}
use Rattle.book.specs.Book.{Bkey, is}
use Rattle.fields.specs.CheckKeyFields.{has_row, minimum_value, check_position, check_key_fields}
use Rattle.fields.specs.Steps.{size_bad, snapshot_bad}
use Rattle.states.specs.CheckStateWords.{check_state_words}

-- the btrees and types that these rules judge by more than a size and a snapshot, a row each
unfoldable pub judged : List (ℕ × ℕ)
judged = (0, 15) ∷ (1, 29) ∷ (3, 11) ∷ (4, 27) ∷ (7, 16) ∷ (8, 21) ∷ (9, 22) ∷ (13, 28) ∷ (15, 31) ∷ (17, 35) ∷ (20, 34) ∷ []

module _ (k : Bkey) (none : has_row judged k.btree k.key_type ≡ false) where
  other : (b t : ℕ) → has_row judged b t ≡ true → is b t k ≡ false
  unfolding is
  other b t e = ⊎_elim
      (λ h.
      let both = both_true (eqb k.btree b) (eqb k.key_type t) h in
      let same = ap₂ (has_row judged) (eqb-true k.btree b both.0) (eqb-true k.key_type t both.1) in
      absurd (true≢false (sym e ∙ sym same ∙ none)))
      (λ h. h)
      (tested (is b t k))

  position_none : (i : ℕ) → check_position i k ≡ []
  unfolding has_row judged check_position when
  position_none i =
      rw (
        other 1 29 refl,
        other 8 21 refl,
        other 9 22 refl,
        other 7 16 refl,
        other 0 15 refl,
        other 17 35 refl,
        other 15 31 refl,
        other 20 34 refl,
        other 13 28 refl,
        other 3 11 refl,
      )

  pub fields_none : (i : ℕ) → size_bad k ≡ false → snapshot_bad k ≡ false → check_key_fields i k ≡ []
  unfolding has_row judged check_key_fields minimum_value size_bad snapshot_bad when only
  fields_none i size snapshot =
      rw (
        size,
        snapshot,
        other 13 28 refl,
        other 9 22 refl,
        other 8 21 refl,
        le-ltb (length k.value) 0 (omega arith),
        other 20 34 refl,
        other 1 29 refl,
        other 4 27 refl,
        position_none i,
      )

  pub states_none : (version i : ℕ) → check_state_words version i k ≡ []
  unfolding has_row judged check_state_words only
  states_none version i = rw (other 9 22 refl, other 8 21 refl)
