-- The ids above a snapshot in their array.
use Rattle.std.specs.Prelude.{ℕ, ◌-◌, List, ◌++◌, ◌≡◌, length, replicate, take}
use Rattle.parents.specs.Roots.{root_of}
use Rattle.parents.specs.Chains.{root_answer, chain}
use Rattle.ancestors.specs.declared.Ancestors.{Ancestors}
use Rattle.ancestors.specs.declared.Line.{Line}

-- "an array of 1,024 ids, first all zero", that begins with these
unfoldable pub padded : List ℕ → List ℕ
padded ids = ids ++ replicate (1024 - length ids) 0

-- "The ancestors of one snapshot fill an array of 1,024 ids": the array, how many ids there are, and the root
unfoldable pub ancestors_of : List (ℕ × ℕ) → ℕ → Ancestors
ancestors_of parents id = record {
  ids = padded (chain parents id 1024);
  len = length (chain parents id 1024);
  root = root_answer (root_of parents id);
}

-- an array of 1,024 ids begins with those above the line's snapshot, and the line has their number and the root
pub record Lined (parents : List (ℕ × ℕ)) (ids : List ℕ) (l : Line) : Type 0 where
  pub full : length ids ≡ 1024
  pub ids_are : take l.len ids ≡ chain parents l.id 1024
  pub len_is : l.len ≡ length (chain parents l.id 1024)
  pub root_is : l.root ≡ root_answer (root_of parents l.id)
