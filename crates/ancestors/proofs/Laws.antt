-- What callers cite of a line:
--     among        an id other than the snapshot is in its array exactly if it is one of `above`
--     lined-few    its length is what `contains` requires
use Prim.Native.Nat.{ℕ, ◌-◌, ◌≤◌}
use mathlib.Core.Path.{◌≡◌}
use mathlib.Core.List.{List}
use lib.ListN.{length, take, replicate}
use lib.Seq.{take-append_seam}
use Rattle.pairs.specs.Pairs.{has}
use Rattle.parents.specs.Roots.{root_of, above}
use Rattle.parents.specs.Chains.{root_answer, chain}
use Rattle.parents.proofs.Laws.{among_chain, chain_le}
use Rattle.ancestors.specs.Lines.{padded, ancestors_of, Lined}
use Rattle.ancestors.specs.declared.Ancestors.{Ancestors}
use Rattle.ancestors.specs.declared.Line.{Line}

module _ (t : List (ℕ × ℕ)) where
  module _ {ids : List ℕ} {l : Line} (h : Lined t ids l) where
    pub among : {s : ℕ} → (s ≡ l.id → ⊥) → has s (take l.len ids) ≡ has s (above t l.id)
    among {s} other = rw h.ids_are (among_chain t l.id s other)

    pub lined_few : l.len ≤ 1024
    lined_few = rw h.len_is (chain_le t 1024 l.id)

  -- what `ancestors_of` answers
  module _ (id : ℕ) {a : Ancestors} (e : a ≡ ancestors_of t id) where
    -- the array begins with the ids on the way
    pub array_is : take a.len a.ids ≡ chain t id 1024
    unfolding ancestors_of padded
    array_is = rw e (take-append_seam (chain t id 1024) (replicate (1024 - length (chain t id 1024)) 0))

    pub root_is : a.root ≡ root_answer (root_of t id)
    unfolding ancestors_of
    root_is = rw e
