-- The laws of the rules on one key: sizes, bytes, and the parts of `check_key_fields`.
use mathlib.Core.Path.{◌≡◌, refl, sym, ap, ap₂, ◌∙◌}
use mathlib.Core.Bool.{Bool, true, false, not, ◌&&◌, ◌||◌}
use mathlib.Core.List.{List, [], ◌∷◌, ◌++◌, append_assoc, append-nil}
use Prim.Native.Nat.{ℕ, zero, suc, ◌+◌, ◌*◌, ◌/◌, ◌%◌, ◌^◌, ◌≤◌, ◌<◌}
use native.Mathlib.Numerals.{add-one}
use native.Mathlib.Omega.{arith}
use lib.ListN.{length, get_or}
use lib.Dec.{T, eqb, leb, ltb, lit<}
use Rattle.std.specs.Bool.{then_some}
use Rattle.std.specs.Prelude.{Option}
use Rattle.findings.specs.declared.kind.Kind.{Kind}
use Rattle.findings.specs.Reports.{kind_number}
use borrow.Author.Rules.{rules}
use Rattle.std.specs.List.{IsAllAdjacentAnswer, HoldsAt, AllWithin}
use Rattle.std.specs.Prelude.{MatchBool, Decides}
use Rattle.std.proofs.lemmas.Bool.{false≢true}
use Rattle.std.proofs.lemmas.Bool.Decides.{same_from_decides, Decides-by_or}
use borrow.Author.Tests.{eqb-true, ltb-true, ltb-false, eq-eqb, ne_eqb, lt-leb, le-leb, lt-ltb, le-ltb, tests}
use Rattle.findings.proofs.Reports.{reports_more, reports_as, reports_nil}
use Rattle.bits.specs.Bits.{le_at}
use Rattle.findings.specs.Findings.{finding, when, only}
use Rattle.book.specs.Book.{Bkey, bkey, is}
use Rattle.book.specs.declared.KeyHead.{KeyHead}
use Rattle.fields.specs.CheckKeyDevice.{elsewhere, check_key_device}
use Rattle.fields.specs.CheckKeyFields.{has_row, size_zero, accounting_position_bytes, accounting_kind, accounting_junk, replicas_entry_refused, counters_bad, some_not_rising, check_accounting_key, check_inode_v3_word, check_snapshot_pad, check_alloc_v4_value, check_position, check_key_fields}
use Rattle.fields.specs.Steps.{pair_of, kind_found, size_bad, snapshot_bad, check_head, check_value, junk_at_end, IsOther, is_counted}

-- `check_key_device` does not go by the value
pub device_any : (device i : ℕ) (h : KeyHead) (v w : List ℕ) → check_key_device device i (bkey h v) ≡ check_key_device device i (bkey h w)
unfolding check_key_device elsewhere
device_any device i h v w = refl

-- ---- btree and type

and_false : (a b : Bool) → (a ≡ true → b ≡ true → ⊥) → a && b ≡ false
and_false true true h = absurd (h refl refl)
and_false true false h = refl
and_false false b h = refl

-- another pair
pub pair_not : (x y b t : ℕ) → (pair_of b t ≡ pair_of x y → ⊥) → (eqb b x && eqb t y) ≡ false
pair_not x y b t h = and_false _ _ (λ e f. h (ap₂ pair_of (eqb-true _ _ e) (eqb-true _ _ f)))

-- ---- sizes

-- keys of btrees 0 and 11 may have one
no_row : (a b : ℕ) (t : ℕ) → has_row size_zero a t ≡ false → eqb b a ≡ true → has_row size_zero b t ≡ false
no_row a b t h e = rw (eqb-true b a e) h

sized : (none first second row : Bool) → (first ≡ true → row ≡ false) → (second ≡ true → row ≡ false) → none || (first || second) ≡ true → not none && row ≡ false
sized true first second row f g e = refl
sized false true second row f g e = f refl
sized false false true row f g e = g refl
sized false false false row f g e = cc

pub size_may : (k : Bkey) → eqb k.size 0 || (eqb k.btree 0 || eqb k.btree 11) ≡ true → size_bad k ≡ false
unfolding size_bad has_row size_zero
size_may k e = sized (eqb k.size 0) _ _ _ (no_row 0 k.btree k.key_type refl) (no_row 11 k.btree k.key_type refl) e

-- one that is not 0
has_size : (none may row : Bool) → none || may ≡ false → row ≡ not none && row
has_size true may row e = cc
has_size false may row e = refl

pub size_row : (k : Bkey) → eqb k.size 0 || (eqb k.btree 0 || eqb k.btree 11) ≡ false → has_row size_zero k.btree k.key_type ≡ size_bad k
unfolding size_bad
size_row k e = has_size (eqb k.size 0) (eqb k.btree 0 || eqb k.btree 11) _ e

-- ---- tables and bytes

-- `any` of a test, of which f is the recursion; d is any item
module _ {X : Type 0} (test : X → Bool) (d : X) where
  abbrev Tested : List X → Type 0
  Tested xs = (k : ℕ) × (k < length xs) × HoldsAt (λ x. test x ≡ true) xs k

  decided : (r : Bool) (xs : List X) → MatchBool r (Tested xs) (AllWithin (λ x. test x ≡ false) xs 0 (length xs)) → Decides r (Tested xs)
  decided true xs h = (λ _. h, λ _. refl)
  decided false xs h = (λ e. absurd (false≢true e), λ w. absurd (false≢true (sym (h w.0 d (omega arith) w.1) ∙ w.2 d)))

  pub any_by : (f : List X → Bool) → f [] ≡ false → ((x : X) (xs : List X) → f (x ∷ xs) ≡ test x || f xs)
      → (r : Bool) (xs : List X) → MatchBool r (Tested xs) (AllWithin (λ x. test x ≡ false) xs 0 (length xs)) → r ≡ f xs
  any_by f none more r xs h =
      same_from_decides r (f xs) (decided r xs h) (Decides-by_or test (λ x. test x ≡ true) f (λ x. (λ e. e, λ e. e)) none more xs)

-- numbers rise if each is below the next, and else one is not
rising : (xs : List ℕ) → ((k : ℕ) → suc k < length xs → get_or xs k 0 < get_or xs (suc k) 0) → some_not_rising xs ≡ false
unfolding some_not_rising
rising [] h = refl
rising (x ∷ []) h = refl
rising (x ∷ y ∷ ys) h = rw (lt-leb y x (h 0 (omega arith)), rising (y ∷ ys) (λ k l. h (suc k) (omega arith)))

or_false : (b : Bool) → b || false ≡ b
or_false true = refl
or_false false = refl

or_true : (b : Bool) → b || true ≡ true
or_true true = refl
or_true false = refl

falling : (xs : List ℕ) (k : ℕ) → suc k < length xs → get_or xs (suc k) 0 ≤ get_or xs k 0 → some_not_rising xs ≡ true
unfolding some_not_rising
falling [] k l h = absurd (omega arith)
falling (x ∷ []) k l h = absurd (omega arith)
falling (x ∷ y ∷ ys) zero l h = rw (le-leb y x h)
falling (x ∷ y ∷ ys) (suc k) l h = rw (falling (y ∷ ys) k (omega arith) h) (or_true (leb y x))

pub rising_sorted : (xs : List ℕ) (sorted : Bool) → IsAllAdjacentAnswer (λ x y b. b ≡ ltb x y) xs sorted → not sorted ≡ some_not_rising xs
rising_sorted xs true h = sym (rising xs (λ k l. rw (← add-one k) (ltb-true _ _ (sym (h k 0 (omega arith))))))
rising_sorted xs false (k, l, h) = sym (falling xs k (omega arith) (rw (← add-one k) (ltb-false _ _ (sym (h 0)))))

-- the 16-bit word at 2
pub word_at_2 : (s : List ℕ) → le_at s 2 2 ≡ get_or s 2 0 + 256 * get_or s 3 0
unfolding le_at
word_at_2 s = omega arith

-- ---- the parts of the rule

-- ---- accounting keys, by the number of the kind

pub not_counted : (n : ℕ) → IsOther n → is_counted n ≡ false
not_counted n h = rw (ne_eqb n 0 h.0, ne_eqb n 2 h.1, ne_eqb n 3 h.2)

pub accounting_nothing : (i : ℕ) (k : Bkey) {n : ℕ} → n ≡ accounting_kind k → is_counted n ≡ false → check_accounting_key i k ≡ []
unfolding check_accounting_key only
accounting_nothing i k same h = rw (← same, h)

pub junk_btree : (k : Bkey) → 6 ≡ accounting_kind k → not (eqb (k.inode % 2 ^ 48) 0) || (not (eqb k.offset 0) || not (eqb k.snapshot 0)) ≡ accounting_junk k
unfolding accounting_junk
junk_btree k same = rw (← same) (sym (or_false _))

pub junk_snapshot : (k : Bkey) → 5 ≡ accounting_kind k → not (eqb k.offset 0) ≡ accounting_junk k
unfolding accounting_junk
junk_snapshot k same = rw (← same)

-- ---- positions

-- the key with this btree and this type
abbrev pub typed : Bkey → ℕ → ℕ → Bkey
typed k b t = record { btree = b; key_type = t; size = k.size; inode = k.inode; offset = k.offset; snapshot = k.snapshot; value = k.value }

-- a kind that is found where a test holds
found_if : (i : ℕ) (kind : Kind) (test : Bool) → when test (finding (kind_number kind) i 0) ++ [] ≡ kind_found i (then_some test kind)
unfolding when
found_if i kind true = refl
found_if i kind false = refl

-- a key whose pair is this one is judged by this test
pub position_is : (i : ℕ) (k : Bkey) (b t : ℕ) (kind : Kind) (test : Bool) {p : ℕ} {tested : Bool} {r : Option Kind} → p ≡ pair_of k.btree k.key_type → p ≡ pair_of b t
    → k.key_type < 256 → T (ltb t 256) → check_position i (typed k b t) ≡ when test (finding (kind_number kind) i 0) ++ [] → tested ≡ test
    → r ≡ then_some tested kind → kind_found i r ≡ check_position i k
position_is i k b t kind test p e small low found same got =
    let less : t < 256 = lit< low in
    let btree : k.btree ≡ b = omega arith in
    let type : k.key_type ≡ t = omega arith in
    sym
    (ap₂ (λ (b t : ℕ). check_position i (typed k b t)) btree type ∙ found ∙ found_if i kind test
    ∙ ap (kind_found i) (sym (got ∙ ap (λ (x : Bool). then_some x kind) same)))

-- ---- what the parts find

-- what the functions that `check_accounting_key` calls found; n is the kind's number
pub accounting_found : (i : ℕ) (k : Bkey) {n : ℕ} {bytes : List ℕ} {junk refused bad : Bool}
    → n ≡ accounting_kind k → is_counted n ≡ true
    → bytes ≡ accounting_position_bytes k → junk ≡ junk_at_end n bytes → refused ≡ (eqb n 2 && replicas_entry_refused bytes)
    → bad ≡ counters_bad n (length k.value / 8)
    → when junk (finding 6 i 0) ++ (when refused (finding 7 i 0) ++ when bad (finding 8 i 0)) ≡ check_accounting_key i k
unfolding check_accounting_key junk_at_end only
accounting_found i k same judged e f g h = rw (f, g, h, e, ← same, judged)

pub value_accounting : (i : ℕ) (k : Bkey) → k.btree ≡ 20 → k.key_type ≡ 34 → check_accounting_key i k ≡ check_value i k
unfolding check_value is only
value_accounting i k e f = rw (e, f) (sym (append-nil _))

pub value_inode : (i : ℕ) (k : Bkey) → k.btree ≡ 1 → k.key_type ≡ 29 → check_inode_v3_word i k ≡ check_value i k
unfolding check_value is only
value_inode i k e f = rw (e, f) (sym (append-nil _))

pub value_snapshot : (i : ℕ) (k : Bkey) → k.btree ≡ 9 → k.key_type ≡ 22 → check_snapshot_pad i k ≡ check_value i k
unfolding check_value is only
value_snapshot i k e f = rw (e, f) (sym (append-nil _))

pub value_alloc : (i : ℕ) (k : Bkey) → k.btree ≡ 4 → k.key_type ≡ 27 → check_alloc_v4_value i k ≡ check_value i k
unfolding check_value is only
value_alloc i k e f = rw (e, f)

-- the rule is its three parts
pub parts : (i : ℕ) (k : Bkey) → (check_head i k ++ check_value i k) ++ check_position i k ≡ check_key_fields i k
unfolding check_key_fields check_head check_value size_bad snapshot_bad
parts i k = simp append_assoc

-- what answers the needs of these rules
pub ruleset key_rules = (rules, tests, eq-eqb, ne_eqb, lt-leb, le-leb, lt-ltb, le-ltb, reports_more, reports_as, reports_nil, word_at_2, parts)
