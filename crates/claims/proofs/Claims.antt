-- What the code computes of a claimant is what the rule asks of it.
use Prim.Native.Nat.{ℕ, zero, suc, ◌≤◌, ◌<◌}
use mathlib.Core.Path.{◌≡◌, refl, ap}
use mathlib.Core.Bool.{Bool, true, false, cond, not, ◌&&◌}
use mathlib.Core.List.{List, [], ◌∷◌, ◌++◌, map}
use lib.ListN.{length}
use lib.Dec.{leb, ltb}
use borrow.Author.Tests.{le-leb, lt-leb, lt-ltb, le-ltb}
use Rattle.bits.specs.Bits.{le_at}
use Rattle.pairs.specs.Pairs.{pair}
use Rattle.pairs.proofs.Order.{both_true, less_or_not}
use Rattle.book.specs.Book.{Bkey, is, key_end, keys_from}
use Rattle.states.specs.StateDistance.{distance, subvol_deleted}
use Rattle.subvolumes.specs.SubvolumeStates.{subvol_state}
use Rattle.claims.specs.SnapshotClaims.{claims, claimed}
use Rattle.walk.specs.Keys.{key_at, gather}
use Rattle.claims.specs.Steps.{claim_pair}
use Rattle.book.proofs.AtKey.{long_enough}

module _ (k : Bkey) where
  pub claims_short : is 8 21 k && leb 8 (length k.value) ≡ true → length k.value < 44 → true ≡ claims k
  unfolding claims
  claims_short e h = rw (e, lt-leb 44 (length k.value) h)

  pub claims_long : is 8 21 k && leb 8 (length k.value) ≡ true → 44 ≤ length k.value → {w d : ℕ} → w ≡ le_at k.value 40 4
      → d ≡ distance w subvol_deleted → ltb 2 d ≡ claims k
  unfolding claims subvol_state
  claims_long e h {d = d} w a = rw (e, le-leb 44 (length k.value) h, ← w, ← a) (above d)
    where
      above : (d : ℕ) → ltb 2 d ≡ not (leb d 2)
      above d = less_or_not 2 d (λ h. rw (lt-ltb 2 d h, lt-leb d 2 h)) (λ h. rw (le-ltb 2 d h, le-leb d 2 h))

  pub claims_none : is 8 21 k && leb 8 (length k.value) ≡ false → false ≡ claims k
  unfolding claims
  claims_none e = rw e

  -- a claimant has the word that it claims by
  pub claims_word : claims k ≡ true → 8 ≤ length k.value
  unfolding claims
  claims_word e = long_enough (is 8 21 k) 8 (length k.value) (both_true (is 8 21 k && leb 8 (length k.value)) (not (leb 44 (length k.value) && leb (distance (subvol_state k) subvol_deleted) 2)) e).0

-- the claims that the walk puts

paired_by : (b : Bool) (x : ℕ) (xs ys : List ℕ) → ys ≡ map (λ y. pair y 0) xs → cond b (pair x 0 ∷ []) [] ++ ys ≡ map (λ y. pair y 0) (cond b (x ∷ xs) xs)
paired_by true x xs ys e = ap (λ (l : List ℕ). pair x 0 ∷ l) e
paired_by false x xs ys e = e

pub claims_paired : (s : List ℕ) (n p : ℕ) → gather claim_pair s n p ≡ map (λ y. pair y 0) (claimed (keys_from s n p))
unfolding gather claim_pair claimed keys_from
claims_paired s zero p = refl
claims_paired s (suc n) p = paired_by (claims (key_at s p)) (le_at (key_at s p).value 4 4) (claimed (keys_from s n (key_end s p))) (gather claim_pair s n (key_end s p)) (claims_paired s n (key_end s p))
