-- A key of which the rules on one key say nothing.
use Prim.Native.Nat.{ℕ, ◌+◌, ◌*◌}
use mathlib.Core.Path.{◌≡◌, refl, sym, ◌∙◌}
use mathlib.Core.Bool.{Bool, true, false, not, ◌&&◌, ◌||◌, and-false}
use mathlib.Core.List.{List, [], ◌∷◌, ◌++◌}
use lib.Dec.{eqb}
use borrow.Author.Tests.{eqb-true, not-true}
use Rattle.bits.specs.Bits.{bits_at}
use Rattle.findings.specs.Findings.{Finding, finding, when}
use Rattle.book.specs.declared.KeyFront.{KeyFront}
use Rattle.book.specs.Book.{Bkey, key_head, book_of}
use Rattle.walk.specs.Keys.{key_at, AtKey}
use Rattle.pairs.proofs.Order.{both_true}
use Rattle.fields.specs.CheckKeyDevice.{elsewhere, check_key_device}
use Rattle.fields.specs.CheckKeyFields.{has_row}
use Rattle.fields.specs.Steps.{snapshot_bad}
use Rattle.fields.proofs.Laws.{size_may}
use Rattle.types.specs.CheckKeyType.{check_key_type}
use Rattle.types.proofs.Laws.{set_anywhere}
use Rattle.keys.specs.KeyFindings.{key_rules, key_findings}
use Rattle.keys.specs.Steps.{by_device, quiet}
use Rattle.keys.proofs.Others.{judged, fields_none, states_none}

-- ---- the rules

not_filed : (away a b c : Bool) (x y : Finding) → a || (b || c) ≡ false → when (away && (a || c)) x ++ when (away && b) y ≡ []
unfolding when
not_filed away true b c x y e = cc
not_filed away false true c x y e = cc
not_filed away false false true x y e = cc
not_filed true false false false x y e = refl
not_filed false false false false x y e = refl

device_none : (device i : ℕ) (k : Bkey) → by_device k ≡ false → check_key_device device i k ≡ []
unfolding check_key_device by_device
device_none device i k e = not_filed (elsewhere device k) (eqb k.btree 4) (eqb k.btree 13) (eqb k.btree 14) (finding 1 i 0) (finding 2 i 0) e

-- one case more
or_more : (a b c : Bool) → a || c ≡ true → a || (b || c) ≡ true
or_more true b c e = refl
or_more false true c e = refl
or_more false false c e = e

-- no row has this type
not_typed : ℕ → List (ℕ × ℕ) → Bool
not_typed t [] = true
not_typed t (row ∷ rows) = not (eqb row.1 t) && not_typed t rows

no_row : (b t : ℕ) (rows : List (ℕ × ℕ)) → not_typed t rows ≡ true → has_row rows b t ≡ false
unfolding not_typed has_row
no_row b t [] e = refl
no_row b t (row ∷ rows) e =
    let both = both_true (not (eqb row.1 t)) (not_typed t rows) e in
    rw (not-true (eqb row.1 t) both.0, and-false (eqb row.0 b), no_row b t rows both.1) refl

module _ (k : Bkey) (set : k.key_type ≡ 25) where
  not_judged : has_row judged k.btree k.key_type ≡ false
  unfolding not_typed judged
  not_judged = rw set (no_row k.btree 25 judged refl)

  type_none : (i : ℕ) → check_key_type i k ≡ []
  unfolding check_key_type when
  type_none i = rw (set, set_anywhere k.btree)

-- a key without a snapshot
no_snapshot : (k : Bkey) → eqb k.snapshot 0 ≡ true → snapshot_bad k ≡ false
unfolding snapshot_bad
no_snapshot k e = rw e refl

rules_none : (device version i : ℕ) (k : Bkey) → quiet k ≡ true → key_rules device version i k ≡ []
unfolding key_rules quiet
rules_none device version i k e =
    let parts = both_true (eqb k.key_type 25 && not (by_device k)) _ e in
    let front = both_true (eqb k.key_type 25) (not (by_device k)) parts.0 in
    let words = both_true (eqb k.size 0 || eqb k.btree 11) (eqb k.snapshot 0) parts.1 in
    let set = eqb-true k.key_type 25 front.0 in
    let size = size_may k (or_more (eqb k.size 0) (eqb k.btree 0) (eqb k.btree 11) words.0) in
    let none = not_judged k set in
    rw (
      device_none device i k (not-true (by_device k) front.1),
      type_none k set i,
      fields_none k none i size (no_snapshot k words.1),
      states_none k none version i,
    )

pub quiet_none : (s : List ℕ) (i : ℕ) (k : Bkey) → quiet k ≡ true → key_findings (book_of s) i k ≡ []
unfolding key_findings
quiet_none s i k e = rules_none (book_of s).header.device (book_of s).header.version i k e

-- ---- the test, of the key in the book

-- by its front: of type 25, and not filed by device
abbrev set_front : KeyFront → Bool
set_front f = eqb f.key_type 25 && not (eqb f.btree 4 || (eqb f.btree 13 || eqb f.btree 14))

module _ {s : List ℕ} {p : ℕ} {f : KeyFront} (k : AtKey s p f) where
  quiet_front : set_front f ≡ eqb (key_at s p).key_type 25 && not (by_device (key_at s p))
  unfolding by_device
  quiet_front = rw k.front

  pub quiet_not : set_front f ≡ false → false ≡ quiet (key_at s p)
  unfolding quiet
  quiet_not e = rw (sym quiet_front ∙ e)

  pub quiet_by : set_front f ≡ true → {size snapshot : ℕ} → size ≡ bits_at s (8 * p + 8 * 4) 32 → snapshot ≡ bits_at s (8 * p + 8 * 24) 32
      → (eqb size 0 || eqb f.btree 11) && eqb snapshot 0 ≡ quiet (key_at s p)
  unfolding quiet key_head
  quiet_by e size snapshot = rw (sym quiet_front ∙ e, k.front, size, snapshot)
