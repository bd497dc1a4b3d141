-- A walk over the keys of a book that puts pairs: its invariant, and the laws by which it begins, turns and ends.
pub use Rattle.book.proofs.AtKey.{at_key, at_is, at_length, at_long, at_least, at_end, at_word}
use Prim.Native.Nat.{ℕ, zero, suc, ◌+◌, ◌-◌, ◌≤◌, ◌<◌}
use mathlib.Core.Path.{◌≡◌, refl, sym, ap, ◌∙◌}
use mathlib.Core.Bool.{Bool, true, false, true≢false, ◌&&◌}
use mathlib.Core.List.{List, ◌++◌, append_assoc, append-nil}
use native.Mathlib.Omega.{arith}
use lib.ListN.{length}
use lib.Dec.{eqb, leb}
use borrow.Author.Tests.{leb-true}
use Rattle.bits.specs.Bits.{le_at}
use Rattle.findings.specs.Findings.{Finding, each}
use Rattle.findings.proofs.Walk.{each_next}
use Rattle.pairs.specs.Pairs.{pairs_of}
use Rattle.book.specs.declared.KeyFront.{KeyFront}
use Rattle.book.specs.Book.{Bkey, is, key_head, key_end, keys_from}
use Rattle.book.specs.Walk.{KeysFit, front_of}
use Rattle.book.proofs.Walk.{step, front_end, value_length, value_word}
use Rattle.walk.specs.Keys.{key_at, AtKey, gather}

-- ---- the walk

-- the `count` keys from byte `start` on give the first n pairs of w and what those from byte p on, `left` of them, give
pub record Gathered (of : ℕ → Bkey → List ℕ) (s : List ℕ) (count start : ℕ) (w : List ℕ) (n left p : ℕ) : Type 0 where
  pub fit : KeysFit s left p
  pub few : n + left ≤ count
  pub whole : gather of s count start ≡ pairs_of w n ++ gather of s left p

pub gather_step : (of : ℕ → Bkey → List ℕ) (s : List ℕ) (n p : ℕ) → 0 < n → gather of s n p ≡ of p (key_at s p) ++ gather of s (n - 1) (key_end s p)
unfolding gather
gather_step of s zero p h = absurd (omega arith)
gather_step of s (suc n) p h = let less : suc n - 1 ≡ n = omega arith in rw less

module _ {of : ℕ → Bkey → List ℕ} {s : List ℕ} {count start : ℕ} where
  pub none_yet : {w : List ℕ} → KeysFit s count start → Gathered of s count start w 0 count start
  unfolding pairs_of
  none_yet fit = record { fit = fit; few = omega arith; whole = refl }

  pub one_more_lem : {w w' : List ℕ} {n m left p q : ℕ} → Gathered of s count start w n left p → 0 < left → m ≤ n + 1
      → pairs_of w' m ≡ pairs_of w n ++ of p (key_at s p) → q ≡ key_end s p → Gathered of s count start w' m (left - 1) q
  one_more_lem {w} {n = n} {left = left} {p = p} g h few put e =
      let st = step s left p h g.fit in
      record {
        fit = rw e st.rest;
        few = omega (arith, g.few);
        whole = rw (e, put)
            (g.whole ∙ ap (λ (l : List ℕ). pairs_of w n ++ l) (gather_step of s left p h) ∙ sym (append_assoc (pairs_of w n) (of p (key_at s p)) (gather of s (left - 1) (key_end s p))));
      }

  pub all_put : {w : List ℕ} {n left p : ℕ} → Gathered of s count start w n left p → left ≡ 0 → pairs_of w n ≡ gather of s count start
  unfolding gather
  all_put {w} {n} g e = sym (g.whole ∙ rw e (append-nil (pairs_of w n)))

-- ---- a rule key after key

pub key_next : (of : Bkey → List Finding) (s : List ℕ) (n p : ℕ) {q : ℕ} → 0 < n → KeysFit s n p → q ≡ key_end s p
    → each (λ _ k. of k) 0 (keys_from s n p) ≡ of (key_at s p) ++ each (λ _ k. of k) 0 (keys_from s (n - 1) q)
key_next of s n p h fit e = rw e (each_next (λ _ k. of k) (λ i k. refl) (step s n p h fit).keys)
