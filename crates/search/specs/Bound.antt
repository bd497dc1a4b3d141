-- What a binary search finds.
use Rattle.std.specs.Prelude.{ℕ, ◌≤◌, ◌<◌}

-- of the first n values of f, those before place r are below x, and those from it on are not
pub record LowerBound (f : ℕ → ℕ) (n x r : ℕ) : Type 0 where
  pub inside : r ≤ n
  pub below : (k : ℕ) → k < r → f k < x
  pub above : (k : ℕ) → r ≤ k → k < n → x ≤ f k

-- the place of x is from low to high: all before low are below x, and none from high on is
pub record Bracket (f : ℕ → ℕ) (n x low high : ℕ) : Type 0 where
  pub ordered : low ≤ high
  pub inside : high ≤ n
  pub below : (k : ℕ) → k < low → f k < x
  pub above : (k : ℕ) → high ≤ k → k < n → x ≤ f k
