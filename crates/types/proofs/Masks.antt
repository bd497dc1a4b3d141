-- The table as masks: the row of a btree, a computed test over the btrees and types that have a bit, and what lies beyond them.
use Rattle.std.specs.Prelude.{None, Option, Some, is_some, IfSome}
use Rattle.std.specs.Borrow.{Bor}
use Rattle.std.proofs.lemmas.List.{get_or_default}
use Rattle.std.specs.Option.{option_copied}
use Rattle.std.proofs.Common.{get_or, map, bit_or}
use Rattle.std.proofs.Math.Nat.{div-eq_of_lt}
use Rattle.std.proofs.Math.Pow.{pow_mono}
use Rattle.std.proofs.Math.Nat.{lt_of_lt_of_le}
use Prim.Native.Nat.{ℕ, zero, suc, ◌/◌, ◌^◌, ◌≤◌, ◌<◌}
use mathlib.Core.Path.{◌≡◌, refl, sym, ap, subst, ◌∙◌}
use Rattle.findings.proofs.Laws.{split}
use mathlib.Core.Bool.{Bool, true, false, cond, not, ◌&&◌}
use mathlib.Core.List.{List, [], ◌∷◌}
use native.Mathlib.Omega.{arith}
use lib.Dec.{eqb, ltb}
use borrow.Author.Tests.{eq-eqb, ne_eqb, eqb-true, ltb-true, ltb-false}
use Rattle.pairs.specs.Pairs.{has}
use Rattle.pairs.proofs.Order.{both_true, same_or_not}
use Rattle.book.specs.Maps.{lookup}
use Rattle.types.specs.CheckKeyType.{key_types_anywhere, key_types_allowed, outside, foreign_type}
use Rattle.types.specs.Steps.{in_mask, with_bit, mask_of, row_mask, allowed_mask}

-- ---- tests of all numbers below another

all_below : (ℕ → Bool) → ℕ → Bool
all_below f zero = true
all_below f (suc n) = f n && all_below f n

one_below : (f : ℕ → Bool) (n k : ℕ) → all_below f n ≡ true → k < n → f k ≡ true
unfolding all_below
one_below f zero k e h = absurd (omega arith)
one_below f (suc n) k e h =
    let both = both_true (f n) (all_below f n) e in
    same_or_not k n (λ same. rw same both.0) (λ other. one_below f n k both.1 (omega arith))

agree : Bool → Bool → Bool
agree true b = b
agree false b = not b

agreed : (a b : Bool) → agree a b ≡ true → a ≡ b
unfolding agree
agreed true b e = sym e
agreed false true e = cc
agreed false false e = refl

-- ---- btrees with a row, types with a bit

-- by the mask of a btree's row and that of the types anywhere, a type that keys of the btree may not have
abbrev pub by_masks : Option ℕ → ℕ → Bool
by_masks None key_type = false
by_masks (Some mask) key_type = not (in_mask (bit_or mask (mask_of key_types_anywhere)) key_type)

all_agree : all_below (λ b. all_below (λ t. agree (by_masks (allowed_mask b) t) (foreign_type b t)) 64) 29 ≡ true
unfolding all_below agree allowed_mask row_mask mask_of with_bit in_mask has lookup key_types_anywhere key_types_allowed outside foreign_type
all_agree = refl

masked : (btree key_type : ℕ) → btree < 29 → key_type < 64 → by_masks (allowed_mask btree) key_type ≡ foreign_type btree key_type
masked b t few low =
    agreed (by_masks (allowed_mask b) t) (foreign_type b t)
    (one_below (λ t. agree (by_masks (allowed_mask b) t) (foreign_type b t)) 64 t
    (one_below (λ b. all_below (λ t. agree (by_masks (allowed_mask b) t) (foreign_type b t)) 64) 29 b all_agree few) low)

-- ---- beyond

-- each number of a list is below n
under : ℕ → List ℕ → Bool
under n [] = true
under n (x ∷ xs) = ltb x n && under n xs

has_beyond : (n x : ℕ) (xs : List ℕ) → under n xs ≡ true → n ≤ x → has x xs ≡ false
unfolding under has
has_beyond n x [] e h = refl
has_beyond n x (y ∷ ys) e h =
    let both = both_true (ltb y n) (under n ys) e in
    rw (ne_eqb x y (λ same. absurd (omega (arith, ltb-true y n both.0, same))), has_beyond n x ys both.1 h)

-- each row is of a btree below m, and has types below n alone
rows_under : ℕ → ℕ → List (ℕ × List ℕ) → Bool
rows_under m n [] = true
rows_under m n (row ∷ rows) = (ltb row.0 m && under n row.1) && rows_under m n rows

table_under : rows_under 29 64 key_types_allowed ≡ true
unfolding rows_under under key_types_allowed
table_under = refl

no_row : (m n : ℕ) (rows : List (ℕ × List ℕ)) (b : ℕ) → rows_under m n rows ≡ true → m ≤ b → lookup b rows ≡ None
unfolding rows_under lookup
no_row m n [] b e h = refl
no_row m n (row ∷ rows) b e h =
    let both = both_true (ltb row.0 m && under n row.1) (rows_under m n rows) e in
    let name = both_true (ltb row.0 m) (under n row.1) both.0 in
    rw (ne_eqb b row.0 (λ same. absurd (omega (arith, ltb-true row.0 m name.0, same)))) (no_row m n rows b both.1 h)

-- a btree beyond the last has no mask
mask_beyond : (btree : ℕ) → 29 ≤ btree → None ≡ allowed_mask btree
unfolding allowed_mask row_mask
mask_beyond b h = rw (no_row 29 64 key_types_allowed b table_under h)

-- a btree without a row holds every type
beyond_btrees : (btree key_type : ℕ) → 29 ≤ btree → false ≡ foreign_type btree key_type
unfolding foreign_type outside
beyond_btrees b t h = rw (no_row 29 64 key_types_allowed b table_under h)

-- whether there is a row
is_row : Option (List ℕ) → Bool
is_row None = false
is_row (Some row) = true

all_rows : all_below (λ b. is_row (lookup b key_types_allowed)) 29 ≡ true
unfolding all_below is_row lookup key_types_allowed
all_rows = refl

outside_rows : (m n : ℕ) (rows : List (ℕ × List ℕ)) (b t : ℕ) → rows_under m n rows ≡ true → is_row (lookup b rows) ≡ true → n ≤ t
    → has t key_types_anywhere ≡ false → outside (lookup b rows) t ≡ true
unfolding rows_under lookup outside is_row
outside_rows m n [] b t e r h a = cc
outside_rows m n (row ∷ rows) b t e r h a =
    let both = both_true (ltb row.0 m && under n row.1) (rows_under m n rows) e in
    let types = (both_true (ltb row.0 m) (under n row.1) both.0).1 in
    same_or_not b row.0
    (λ same. rw (eq-eqb b row.0 same, has_beyond n t row.1 types h, a) refl)
    (λ other.
    let there = subst (λ (test : Bool). is_row (cond test (Some row.1) (lookup b rows)) ≡ true) (ne_eqb b row.0 other) r in
    rw (ne_eqb b row.0 other) (outside_rows m n rows b t both.1 there h a))

anywhere_under : under 64 key_types_anywhere ≡ true
unfolding under key_types_anywhere
anywhere_under = refl

-- no row has a type without a bit
beyond_types : (btree key_type : ℕ) → btree < 29 → 64 ≤ key_type → true ≡ foreign_type btree key_type
unfolding foreign_type
beyond_types b t few h =
    sym
    (outside_rows 29 64 key_types_allowed b t table_under (one_below (λ b. is_row (lookup b key_types_allowed)) 29 b all_rows few) h
    (has_beyond 64 t key_types_anywhere anywhere_under h))

-- ---- masks alone

-- a mask has no bit from 64 on
pub beyond_bits : (mask key_type : ℕ) → mask < 2 ^ 64 → 64 ≤ key_type → false ≡ in_mask mask key_type
unfolding in_mask
beyond_bits mask t low far =
    let none : mask / 2 ^ t ≡ 0 = div-eq_of_lt (lt_of_lt_of_le low (pow_mono far)) in
    rw none

-- there is a mask, of 64 bits with that of the types anywhere
is_low : Option ℕ → Bool
is_low None = false
is_low (Some mask) = ltb (bit_or mask (mask_of key_types_anywhere)) (2 ^ 64)

all_low : all_below (λ b. is_low (allowed_mask b)) 29 ≡ true
unfolding all_below is_low allowed_mask row_mask mask_of with_bit in_mask lookup key_types_anywhere key_types_allowed
all_low = refl

none_from_64 : (mask : Option ℕ) (key_type : ℕ) → is_low mask ≡ true → 64 ≤ key_type → by_masks mask key_type ≡ true
unfolding is_low
none_from_64 None t low far = cc
none_from_64 (Some mask) t low far = rw (← beyond_bits (bit_or mask (mask_of key_types_anywhere)) t (ltb-true _ (2 ^ 64) low) far)

-- THE CLAIM: the masks judge as the table does
pub foreign_by_masks : (btree key_type : ℕ) → by_masks (allowed_mask btree) key_type ≡ foreign_type btree key_type
foreign_by_masks b t =
    split 29 b
    (λ h. rw (← mask_beyond b h) (beyond_btrees b t h))
    (λ few.
    split 64 t
    (λ far. none_from_64 (allowed_mask b) t (one_below (λ b. is_low (allowed_mask b)) 29 b all_low few) far ∙ beyond_types b t few far)
    (λ low. masked b t few low))

-- ---- the masks in the order of the btrees

unfoldable pub masks : List ℕ
masks = map (λ (row : ℕ × List ℕ). mask_of row.1) key_types_allowed

is_mask : ℕ → Option ℕ → Bool
is_mask n None = false
is_mask n (Some mask) = eqb n mask

mask_is : (n : ℕ) (mask : Option ℕ) → is_mask n mask ≡ true → Some n ≡ mask
unfolding is_mask
mask_is n None e = cc
mask_is n (Some mask) e = ap (λ (m : ℕ). Some m) (eqb-true n mask e)

in_order : all_below (λ b. is_mask (get_or masks b 0) (allowed_mask b)) 29 ≡ true
unfolding all_below is_mask masks allowed_mask row_mask mask_of with_bit in_mask lookup key_types_allowed
in_order = refl

-- the mask that is got at a btree's number, if there is one
pub mask_got : (btree : ℕ) (got : Option (Bor ℕ)) → is_some got ≡ ltb btree 29 → IfSome got (λ x. x.now ≡ get_or masks btree x.now) → option_copied got ≡ allowed_mask btree
unfolding masks key_types_allowed
mask_got b None e h = mask_beyond b (ltb-false b 29 (sym e))
mask_got b (Some x) e h =
    let few : b < 29 = ltb-true b 29 (sym e) in
    let same : x.now ≡ get_or masks b 0 = h ∙ get_or_default masks b x.now 0 few in
    rw same (mask_is (get_or masks b 0) (allowed_mask b) (one_below (λ b. is_mask (get_or masks b 0) (allowed_mask b)) 29 b in_order few))
