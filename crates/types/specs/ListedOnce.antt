-- "The whole table is shown to list no type twice within one row" (document 02, ticket 4).
use Rattle.std.specs.Prelude.{ℕ, ◌≤◌, ◌≡◌, true, false}
use mathlib.Core.List.{List, map, Memᴰ}
use Rattle.pairs.specs.Counts.{count}
use Rattle.pairs.specs.Pairs.{has}

-- of rows of btrees and types, and the types anywhere
pub record ListedOnce (rows : List (ℕ × List ℕ)) (anywhere : List ℕ) : Type 0 where
  -- no btree has two rows
  pub btrees : (btree : ℕ) → count btree (map (λ (row : ℕ × List ℕ). row.0) rows) ≤ 1
  -- "no type twice within one row"
  pub types : (row : ℕ × List ℕ) → Memᴰ row rows → (key_type : ℕ) → count key_type row.1 ≤ 1
  -- no type of a row is among those anywhere
  pub apart : (row : ℕ × List ℕ) → Memᴰ row rows → (key_type : ℕ) → has key_type row.1 ≡ true
      → has key_type anywhere ≡ false
