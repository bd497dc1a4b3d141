-- The parents that are drawn from a line of snapshots.
use Prim.Native.Nat.{ℕ, zero, suc, ◌+◌, ◌*◌, ◌/◌, ◌%◌, ◌^◌, ◌<◌}
use mathlib.Core.Path.{◌≡◌, refl, ap, ap₂, ◌∙◌}
use mathlib.Core.Bool.{true}
use mathlib.Core.List.{List, [], ◌∷◌, map}
use native.Mathlib.Omega.{arith}
use borrow.Author.Tests.{lt-ltb}
use Rattle.bits.specs.Bits.{le_at}
use Rattle.findings.specs.Findings.{keep}
use Rattle.book.specs.Maps.{insert, insert_all, collect}
use Rattle.book.specs.Book.{Bkey, is}
use Rattle.book.specs.Words.{holds, id_of, parent_word}
use Rattle.book.specs.KeyMaps.{map_of, drawn_from, parents_of}
use Rattle.rules.specs.Rows.{word, line, book, snapshot, snapshots}

-- the pairs of the snapshots among keys
abbrev pairs : List Bkey → List (ℕ × ℕ)
pairs ks = map (λ k. (id_of k, parent_word k)) (keep (holds 9 22 8) ks)

-- a word's bytes give it back
word_back : (x : ℕ) → x < 2 ^ 32 → 0 + 1 * (x % 256) + 256 * (x / 256 % 256) + 65536 * (x / 65536 % 256) + 16777216 * (x / 16777216) ≡ x
word_back x l = omega arith

-- the pair of a snapshot, before those of the rest
pairs_more : (id parent : ℕ) (ks : List Bkey) → id < 2 ^ 32 → parent < 2 ^ 32 → pairs (snapshot id parent ∷ ks) ≡ (id, parent) ∷ pairs ks
unfolding keep holds is snapshot word id_of le_at
pairs_more id parent ks i p =
    let number : id % 2 ^ 32 ≡ id = omega arith in
    ap₂ (λ (a b : ℕ). (a, b) ∷ pairs ks) number (word_back parent p)

-- put into a line from n on, those of n snapshots make it one from 0 on
put_front : (n k : ℕ) → insert (suc n, n) (line (suc n) k) ≡ line n (suc k)
unfolding insert line
put_front n zero = refl
put_front n (suc k) = rw (lt-ltb (suc n) (suc (suc n)) (omega arith))

line_made : (n k : ℕ) → n < 2 ^ 32 → insert_all (line n k) (pairs (snapshots n)) ≡ line 0 (n + k)
unfolding snapshots insert_all keep
line_made zero k l = let same : 0 + k ≡ k = omega arith in rw same
line_made (suc n) k l =
    let more : n + suc k ≡ suc n + k = omega arith in
    ap (insert_all (line (suc n) k)) (pairs_more (suc n) n (snapshots n) l (omega arith))
    ∙ ap (λ (m : List (ℕ × ℕ)). insert_all m (pairs (snapshots n))) (put_front n k)
    ∙ line_made n (suc k) (omega arith)
    ∙ ap (line 0) more

pub drawn_line : (n : ℕ) → n < 2 ^ 32 → parents_of (book true n (snapshots n)) ≡ line 0 n
unfolding parents_of drawn_from map_of collect line
drawn_line n l = let same : n + 0 ≡ n = omega arith in line_made n 0 l ∙ ap (line 0) same

pub drawn_one : (id parent : ℕ) → id < 2 ^ 32 → parent < 2 ^ 32 → parents_of (book true 1 (snapshot id parent ∷ [])) ≡ (id, parent) ∷ []
unfolding parents_of drawn_from map_of collect insert_all insert keep
drawn_one id parent i p = ap (insert_all []) (pairs_more id parent [] i p)
