-- Laws of a table of two words that ends within the bytes: it passes if its first words rise.
use Prim.Native.Nat.{ℕ, zero, suc, ◌+◌, ◌-◌, ◌*◌, ◌≤◌, ◌<◌}
use mathlib.Core.Path.{◌≡◌, refl, sym, ◌∙◌, ap}
use mathlib.Core.Bool.{Bool, true, false, true≢false, ◌&&◌, and_assoc, and-true}
use mathlib.Core.Logic.{⊎_elim}
use mathlib.Core.List.{List}
use native.Mathlib.Omega.{arith}
use native.Mathlib.Nat.{add-zero, zero-add}
use lib.ListN.{length}
use lib.Dec.{ltb}
use borrow.Author.Tests.{lt-ltb, le-ltb, le-leb, lt-leb}
use Rattle.search.proofs.Bracket.{le_or_lt}
use Rattle.std.specs.Prelude.{Ok, Err, is_ok}
use Rattle.book.specs.Book.{words_table, entry_at}
use Rattle.book.specs.Refusals.{Verdict, refuse, ◌then◌, bad_rest, entry_verdict, table_verdict}
use Rattle.scan.specs.Steps.{words_rise}
use Rattle.book.proofs.Laws.{entry_fits}
use Rattle.book.proofs.Tables.{entries_pass}

-- what the test says of the verdict
pub does_pass : (v : Verdict) → true ≡ is_ok v → Ok tt ≡ v
does_pass (Ok u) e = refl
does_pass (Err r) e = absurd (true≢false e)

module _ (s : List ℕ) where
  -- the first word of the entry at byte p
  abbrev pub word : ℕ → ℕ
  word p = (entry_at words_table s p).first

  -- the first of n entries, and those after it
  rise_step : (n p : ℕ) → 0 < n → words_rise s n p ≡ ltb (word p) (word (p + 8)) && words_rise s (n - 1) (p + 8)
  unfolding words_rise
  rise_step zero p h = absurd (omega arith)
  rise_step (suc n) p h = let e : suc n - 1 ≡ n = omega arith in rw e

  pub rise_none : (p : ℕ) {n : ℕ} → n ≡ 0 → true ≡ words_rise s n p
  unfolding words_rise
  rise_none p h = rw h

  pub rise_on : (n p : ℕ) → 0 < n → word p < word (p + 8) → words_rise s n p ≡ words_rise s (n - 1) (p + 8)
  rise_on n p h l = rise_step n p h ∙ rw (lt-ltb _ _ l)

  pub rise_stop : (n p : ℕ) → 0 < n → word (p + 8) ≤ word p → false ≡ words_rise s n p
  rise_stop n p h l = sym (rise_step n p h ∙ rw (le-ltb _ _ l))

  -- the same number of entries
  pub rise_left : (p : ℕ) {n m : ℕ} → n ≡ m → words_rise s n p ≡ words_rise s m p
  rise_left p e = ap (λ (k : ℕ). words_rise s k p) e

  -- the first m, and those after them
  rise_split : (m n p : ℕ) → words_rise s (m + n) p ≡ words_rise s m p && words_rise s n (p + m * 8)
  unfolding words_rise
  rise_split zero n p = rw (zero-add, add-zero)
  rise_split (suc m) n p =
      let more : suc m + n ≡ suc (m + n) = omega arith in
      let place : p + suc m * 8 ≡ (p + 8) + m * 8 = omega arith in
      rw (more, place, rise_split m n (p + 8)) (sym (and_assoc (ltb (word p) (word (p + 8))) (words_rise s m (p + 8)) (words_rise s n ((p + 8) + m * 8))))

  -- the first four, and those after them
  pub rise_fours : (n p : ℕ) → 4 ≤ n → words_rise s n p ≡ words_rise s 4 p && words_rise s (n - 4) (p + 32)
  rise_fours n p h = let whole : n ≡ 4 + (n - 4) = omega arith in ap (λ (k : ℕ). words_rise s k p) whole ∙ rise_split 4 (n - 4) p

  -- four entries, test by test
  pub rise_four : (p : ℕ) → words_rise s 4 p ≡
      (ltb (word p) (word (p + 8)) && (ltb (word (p + 8)) (word (p + 16)) && (ltb (word (p + 16)) (word (p + 24)) && ltb (word (p + 24)) (word (p + 32)))))
  unfolding words_rise
  rise_four p =
      let two : p + 8 + 8 ≡ p + 16 = omega arith in
      let three : p + 16 + 8 ≡ p + 24 = omega arith in
      let four : p + 24 + 8 ≡ p + 32 = omega arith in
      rw (two, three, four, and-true)

  module _ (start : ℕ) where
    -- an entry after the first, that ends within the bytes
    entry_rises : (p : ℕ) (v : Verdict) → start ≤ p → p + 16 ≤ length s →
        is_ok (entry_verdict words_table s start (p + 8) then v) ≡ ltb (word p) (word (p + 8)) && is_ok v
    unfolding entry_verdict ◌then◌ refuse bad_rest
    entry_rises p v h l =
        let back : p + 8 - 8 ≡ p = omega arith in
        ⊎_elim
        (λ (q : word (p + 8) ≤ word p). simp (le-ltb (length s) (p + 8 + 8) (omega arith), le-leb (start + 8) (p + 8) (omega arith), back, le-leb _ _ q, le-ltb _ _ q))
        (λ (q : word p < word (p + 8)). simp (le-ltb (length s) (p + 8 + 8) (omega arith), le-leb (start + 8) (p + 8) (omega arith), back, lt-leb _ _ q, lt-ltb _ _ q))
        (le_or_lt (word (p + 8)) (word p))

    rest_pass : (n p : ℕ) → start ≤ p → p + 8 * n + 8 ≤ length s → is_ok (table_verdict words_table s start n (p + 8)) ≡ words_rise s n p
    unfolding table_verdict words_rise
    rest_pass zero p h l = refl
    rest_pass (suc n) p h l =
        entry_rises p _ h (omega arith) ∙ ap (λ (b : Bool). ltb (word p) (word (p + 8)) && b) (rest_pass n (p + 8) (omega arith) (omega arith))

    -- a table with no entries
    pub words_none : {n : ℕ} → n ≡ 0 → true ≡ is_ok (table_verdict words_table s start n start)
    unfolding table_verdict
    words_none h = rw h

    -- the first entry has none before it
    pub words_pass : (n : ℕ) → 0 < n → start + 8 * n ≤ length s → words_rise s (n - 1) start ≡ is_ok (table_verdict words_table s start n start)
    unfolding table_verdict entry_verdict ◌then◌ refuse bad_rest
    words_pass zero h l = absurd (omega arith)
    words_pass (suc n) h l =
        let less : suc n - 1 ≡ n = omega arith in
        simp (less, le-ltb (length s) (start + 8) (omega arith), lt-leb (start + 8) start (omega arith)) (sym (rest_pass n start (omega arith) (omega arith)))

    -- a table that runs past the end
    pub words_past : (n : ℕ) → 0 < n → length s < start + 8 * n → false ≡ is_ok (table_verdict words_table s start n start)
    words_past n h l = go (table_verdict words_table s start n start) refl
      where
        go : (v : Verdict) → table_verdict words_table s start n start ≡ v → false ≡ is_ok v
        go (Ok u) e =
            let last = entry_fits words_table s start (start + (n - 1) * 8) (entries_pass words_table s start n (n - 1) start e (omega arith)) in
            absurd (omega arith)
        go (Err r) e = refl
