-- A key of a foreign type has no finding of its fields or its state words, so the rule on its type may stand on either
-- side of those.
use Prim.Native.Nat.{ℕ}
use mathlib.Core.Path.{◌≡◌, refl, sym, ap, ap₂, ◌∙◌}
use mathlib.Core.Bool.{Bool, true, false, true≢false, not, and-false, ◌&&◌}
use mathlib.Core.Logic.{⊎_elim}
use mathlib.Core.List.{List, [], ◌∷◌, ◌++◌}
use lib.Dec.{eqb}
use borrow.Author.Tests.{eqb-true, not-true}
use Rattle.findings.specs.Findings.{when}
use Rattle.pairs.specs.Pairs.{has}
use Rattle.pairs.proofs.Order.{tested, both_true}
use Rattle.book.specs.Maps.{lookup}
use Rattle.book.specs.Book.{Bkey}
use Rattle.fields.specs.CheckKeyDevice.{check_key_device}
use Rattle.fields.specs.CheckKeyFields.{has_row, size_zero, snapshot_zero, check_key_fields}
use Rattle.fields.specs.Steps.{size_bad, snapshot_bad}
use Rattle.types.specs.CheckKeyType.{key_types_anywhere, key_types_allowed, outside, foreign_type, check_key_type}
use Rattle.states.specs.CheckStateWords.{check_state_words}
use Rattle.keys.specs.KeyFindings.{key_rules}
use Rattle.keys.proofs.Others.{judged, fields_none, states_none}

-- rows of btrees and types, none of them foreign
none_foreign : List (ℕ × ℕ) → Bool
none_foreign [] = true
none_foreign (row ∷ rows) = not (foreign_type row.0 row.1) && none_foreign rows

module _ (k : Bkey) (foreign : foreign_type k.btree k.key_type ≡ true) where
  not_pair : (b t : ℕ) → foreign_type b t ≡ false → eqb b k.btree && eqb t k.key_type ≡ false
  not_pair b t e = ⊎_elim
      (λ h.
      let both = both_true (eqb b k.btree) (eqb t k.key_type) h in
      absurd (true≢false (sym foreign ∙ sym (ap₂ foreign_type (eqb-true b k.btree both.0) (eqb-true t k.key_type both.1)) ∙ e)))
      (λ h. h)
      (tested (eqb b k.btree && eqb t k.key_type))

  not_row : (rows : List (ℕ × ℕ)) → none_foreign rows ≡ true → has_row rows k.btree k.key_type ≡ false
  unfolding none_foreign has_row
  not_row [] e = refl
  not_row (row ∷ rows) e =
      let both = both_true (not (foreign_type row.0 row.1)) (none_foreign rows) e in
      rw (not_pair row.0 row.1 (not-true (foreign_type row.0 row.1) both.0), not_row rows both.1) refl

  not_judged : has_row judged k.btree k.key_type ≡ false
  unfolding none_foreign judged foreign_type outside lookup has key_types_allowed key_types_anywhere
  not_judged = not_row judged refl

  pub fields_foreign : (i : ℕ) → check_key_fields i k ≡ []
  unfolding size_bad snapshot_bad none_foreign size_zero snapshot_zero foreign_type outside lookup has key_types_allowed key_types_anywhere
  fields_foreign i =
      let size = ap (λ (row : Bool). not (eqb k.size 0) && row) (not_row size_zero refl) ∙ and-false (not (eqb k.size 0)) in
      let snapshot = ap (λ (row : Bool). not (eqb k.snapshot 0) && row) (not_row snapshot_zero refl) ∙ and-false (not (eqb k.snapshot 0)) in
      fields_none k not_judged i size snapshot

  pub states_foreign : (version i : ℕ) → check_state_words version i k ≡ []
  states_foreign version i = states_none k not_judged version i

-- a foreign type has 22 after the device rule's findings and nothing behind it; any other has no 22
pub rules_turn : (device version i : ℕ) (k : Bkey)
    → check_key_device device i k ++ (check_key_type i k ++ (check_key_fields i k ++ check_state_words version i k)) ≡ key_rules device version i k
unfolding key_rules check_key_type when
rules_turn device version i k = ⊎_elim
    (λ foreign. rw (fields_foreign k foreign i, states_foreign k foreign version i, foreign) refl)
    (λ own. rw own refl)
    (tested (foreign_type k.btree k.key_type))
