-- Maps from numbers, as Rust's BTreeMap: lists of pairs that rise by their first numbers.
use Rattle.std.specs.Prelude.{cond, List, [], ◌∷◌, ℕ, suc, eqb, ltb, None, Option, Some}

module _ {A : Type 0} where
  -- what the map has for x
  unfoldable pub lookup : ℕ → List (ℕ × A) → Option A
  lookup x [] = None
  lookup x (e ∷ m) = cond (eqb x e.0) (Some e.1) (lookup x m)

  -- how many pairs of the map stand before the first that is not below x
  unfoldable pub lower_bound : ℕ → List (ℕ × A) → ℕ
  lower_bound x [] = 0
  lower_bound x (e ∷ m) = cond (ltb e.0 x) (suc (lower_bound x m)) 0

  -- a pair put in its place, instead of the one that has its number
  unfoldable pub insert : ℕ × A → List (ℕ × A) → List (ℕ × A)
  insert e [] = e ∷ []
  insert e (f ∷ m) = cond (ltb e.0 f.0) (e ∷ f ∷ m) (cond (eqb e.0 f.0) (e ∷ m) (f ∷ insert e m))

  -- the pairs put into a map one after the other
  unfoldable pub insert_all : List (ℕ × A) → List (ℕ × A) → List (ℕ × A)
  insert_all m [] = m
  insert_all m (e ∷ es) = insert_all (insert e m) es

  -- the map made from pairs: "in each map so made a later key replaces an earlier one"
  unfoldable pub collect : List (ℕ × A) → List (ℕ × A)
  collect es = insert_all [] es
