-- What only contracts of private functions cite.
use Rattle.std.specs.Prelude.{ℕ, ◌*◌, ◌/◌, ◌^◌, ◌≤◌, ◌<◌, ◌≡◌, cond, List, [], ◌∷◌, map, get_or}
use Rattle.bits.specs.Bits.{le_at}
use Rattle.pairs.specs.Pairs.{pair, pairs_of}
use Rattle.book.specs.Book.{Bkey}
use Rattle.claims.specs.SnapshotClaims.{claims}

-- the pair that a claimant gives: the snapshot that it claims, and 0
unfoldable pub claim_pair : ℕ → Bkey → List ℕ
claim_pair p k = cond (claims k) (pair (le_at k.value 4 4) 0 ∷ []) []

-- the first words of the first n pairs
abbrev pub firsts : List ℕ → ℕ → List ℕ
firsts w n = map (λ x. x / 2 ^ 64) (pairs_of w n)

-- of the first n pairs those from i on have the first word of pair i, up to pair e, which has another
pub record RunEnd (w : List ℕ) (n i e : ℕ) : Type 0 where
  pub past : i < e
  pub inside : e ≤ n
  pub same : (k : ℕ) → i ≤ k → k < e → get_or w (2 * k) 0 ≡ get_or w (2 * i) 0
  pub ends : e < n → get_or w (2 * e) 0 ≡ get_or w (2 * i) 0 → ⊥
