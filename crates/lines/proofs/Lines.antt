-- The digits case by case, and what a turn of each loop adds.
use Prim.Native.Nat.{ℕ, zero, suc, ◌+◌, ◌*◌, ◌-◌, ◌≤◌, ◌<◌}
use mathlib.Core.Path.{◌≡◌, refl, sym, ap, ◌∙◌}
use mathlib.Core.Bool.{Bool, true, false, cond}
use mathlib.Core.List.{List, [], ◌∷◌, ◌++◌}
use native.Mathlib.Numerals.{add-one}
use native.Mathlib.Omega.{arith}
use lib.ListN.{length, get_or, take, drop, set, length-append}
use lib.Seq.{append_snoc, set_at, length-take-le, take-suc, drop-drop}
use lib.Dec.{eqb}
use borrow.Rule.Slice.PartMut.{put_mid, take_put, drop_put}
use borrow.Author.Tests.{eq-eqb, ne_eqb, le-leb, lt-leb}
use Rattle.findings.proofs.Walk.{drop_at}
use Rattle.std.specs.List.{HoldsAt, AllWithin}
use Rattle.lines.specs.Lines.{digit_of, decoded, line_length}

-- ---- digits

module _ (b : ℕ) where
  pub digit_low : 48 ≤ b → b ≤ 57 → b - 48 ≡ digit_of b
  unfolding digit_of
  digit_low h k = rw (le-leb 48 b h, le-leb b 57 k)

  pub digit_high : 97 ≤ b → b ≤ 102 → b - 97 + 10 ≡ digit_of b
  unfolding digit_of
  digit_high h k = rw (le-leb 48 b (omega arith), lt-leb b 57 (omega arith), le-leb 97 b h, le-leb b 102 k) (omega arith)

  pub digit_below : b < 48 → 0 ≡ digit_of b
  unfolding digit_of
  digit_below h = rw (lt-leb 48 b h, lt-leb 97 b (omega arith))

  pub digit_between : 57 < b → b < 97 → 0 ≡ digit_of b
  unfolding digit_of
  digit_between h k = rw (le-leb 48 b (omega arith), lt-leb b 57 h, lt-leb 97 b k)

  pub digit_above : 102 < b → 0 ≡ digit_of b
  unfolding digit_of
  digit_above h = rw (le-leb 48 b (omega arith), lt-leb b 57 (omega arith), le-leb 97 b (omega arith), lt-leb b 102 h)

-- ---- bytes in hexadecimal

pub length_decoded : (ds : List ℕ) (n : ℕ) → length (decoded ds n) ≡ n
unfolding decoded
length_decoded ds zero = refl
length_decoded ds (suc n) =
    length-append (decoded ds n) ((digit_of (get_or ds (2 * n) 0) * 16 + digit_of (get_or ds (2 * n + 1) 0)) ∷ [])
    ∙ ap (λ (k : ℕ). k + 1) (length_decoded ds n) ∙ add-one n

pub decoded_none : (ds o : List ℕ) → o ≡ decoded ds 0 ++ drop 0 o
unfolding decoded
decoded_none ds o = refl

pub decoded_next : (ds o : List ℕ) (n : ℕ) {high low : ℕ} → n < length o → high ≡ digit_of (get_or ds (2 * n) 0) → low ≡ digit_of (get_or ds (2 * n + 1) 0)
    → set (decoded ds n ++ drop n o) n (high * 16 + low) ≡ decoded ds (n + 1) ++ drop (n + 1) o
unfolding decoded
decoded_next ds o n {high} {low} h a b =
    let v = digit_of (get_or ds (2 * n) 0) * 16 + digit_of (get_or ds (2 * n + 1) 0) in
    let stored = set_at (decoded ds n) (get_or o n 0) (drop (n + 1) o) v n (length_decoded ds n) in
    rw (a, b, drop_at o n 0 h, stored, add-one n) (sym (append_snoc (decoded ds n) v (drop (suc n) o)))

-- ---- lines

-- up to the first newline, and of a text without one
pub line_found : (text : List ℕ) (i : ℕ) → i < length text → HoldsAt (λ x. x ≡ 10) text i → AllWithin (λ x. x ≡ 10 → ⊥) text 0 i → i ≡ line_length text
unfolding line_length
line_found [] i l here before = absurd (omega arith)
line_found (b ∷ bs) zero l here before = rw (eq-eqb b 10 (here 0))
line_found (b ∷ bs) (suc i) l here before =
    rw (ne_eqb b 10 (before 0 0 (omega arith) (omega arith)))
    (ap suc (line_found bs i (omega arith) here (λ k d low high. before (suc k) d (omega arith) (omega arith))))

pub line_whole : (text : List ℕ) → AllWithin (λ x. x ≡ 10 → ⊥) text 0 (length text) → length text ≡ line_length text
unfolding line_length
line_whole [] none = refl
line_whole (b ∷ bs) none =
    rw (ne_eqb b 10 (none 0 0 (omega arith) (omega arith))) (ap suc (line_whole bs (λ k d low high. none (suc k) d (omega arith) (omega arith))))

-- a line in two parts, the first without a newline
line_parted : (t : Bool) (k m : ℕ) → cond t 0 (suc k) ≡ suc m → (t ≡ false) × (k ≡ m)
line_parted true k m e = absurd (omega arith)
line_parted false k m e = (refl, omega arith)

line_more : (xs ys : List ℕ) → line_length xs ≡ length xs → line_length (xs ++ ys) ≡ length xs + line_length ys
unfolding line_length
line_more [] ys e = omega arith
line_more (x ∷ xs) ys e =
    let t = line_parted (eqb x 10) (line_length xs) (length xs) e in
    rw t.0 (omega (arith, line_more xs ys t.1))

-- the line of the first n bytes, and a byte more
module _ (text : List ℕ) (n : ℕ) (h : n < length text) (e : line_length (take n text) ≡ n) where
  line_next : line_length (take (n + 1) text) ≡ n + line_length (get_or text n 0 ∷ [])
  line_next =
      let l = length-take-le n text (omega arith) in
      rw (add-one n, take-suc text n 0 h, line_more (take n text) (get_or text n 0 ∷ []) (e ∙ sym l), l)

  pub line_kept : n ≤ line_length (take (n + 1) text)
  line_kept = omega (arith, line_next)

  pub line_grown : (get_or text n 0 ≡ 10 → ⊥) → line_length (take (n + 1) text) ≡ n + 1
  unfolding line_length
  line_grown d = line_next ∙ rw (ne_eqb (get_or text n 0) 10 d)

-- what is alike from byte n on is alike from byte n + 1 on
pub drop_later : (n : ℕ) (xs ys : List ℕ) → drop n xs ≡ drop n ys → drop (n + 1) xs ≡ drop (n + 1) ys
drop_later n xs ys e = sym (drop-drop 1 n xs) ∙ ap (drop 1) e ∙ drop-drop 1 n ys

-- a buffer xs, first o, whose byte n is read anew
pub byte_read : (n : ℕ) (xs ys o : List ℕ) → n < length xs → length ys ≡ n + 1 - n → line_length (take n xs) ≡ n → drop n xs ≡ drop n o
    → (line_length (take n (put_mid n (n + 1 - n) xs ys)) ≡ n) × (drop (n + 1) (put_mid n (n + 1 - n) xs ys) ≡ drop (n + 1) o)
byte_read n xs ys o h l e d = (
  rw (take_put n (n + 1 - n) xs ys (omega arith)) e,
  drop_put n (n + 1) xs ys (omega arith) (omega arith) l ∙ drop_later n xs o d,
)

pub mark_none : (text : List ℕ) → length text ≤ 0 → 0 ≡ get_or text 0 0
mark_none [] h = refl
mark_none (b ∷ bs) h = absurd (omega arith)
