-- What only contracts of private functions cite.
use Rattle.std.specs.Prelude.{ℕ, ◌*◌, ◌≤◌, Bool, false, cond, List, length, None, Option, Some}
use Rattle.pairs.specs.Pairs.{pairs_of}
use Rattle.book.specs.declared.Header.{Header}
use Rattle.book.specs.declared.Places.{Places}
use Rattle.book.specs.Walk.{Opened}
use Rattle.walk.specs.Keys.{key_at}
use Rattle.parents.specs.declared.Root.{Root}
use Rattle.maps.specs.Sorted.{AllPairs}
use Rattle.drawn.specs.Classes.{link_pair}
use Rattle.parents.specs.declared.Source.{Source}
use Rattle.parents.specs.declared.Source.TheVariants.{Table, Pairs}
use Rattle.book.specs.Words.{master_word, root_word}
use Rattle.links.specs.SnapshotLinks.{is_the}

-- a root with its links or none, as functions answer it
unfoldable pub root_in : Option Root → Option (ℕ × ℕ)
root_in (Some r) = Some (r.root, r.links)
root_in None = None

-- the root that a tree record names
unfoldable pub root_named : Option (ℕ × ℕ) → Option ℕ
root_named None = None
root_named (Some tree) = Some tree.1

-- a root is there, and a word that is the root's id
unfoldable pub same_root : Option ℕ → Option (ℕ × ℕ) → Bool
same_root word None = false
same_root word (Some root) = is_the root.0 word

-- an id and the place of its tree record, as the pair that they are in the map of trees
abbrev pub tree_at : List ℕ → ℕ × ℕ → ℕ × (ℕ × ℕ)
tree_at s e = (e.0, (master_word (key_at s e.1), root_word (key_at s e.1)))

-- of an accepted book the first n pairs of w are those of all keys, sorted
pub record Ready (s : List ℕ) (h : Header) (at : Places) (w : List ℕ) (n : ℕ) : Type 0 where
  pub opened : Opened s h at
  pub few : n ≤ h.keys
  pub room : 2 * n ≤ length w
  pub pairs : AllPairs link_pair s h.keys at.keys (pairs_of w n)

-- where the parents of such a book are found
unfoldable pub source_of : Header → Places → ℕ → Source
source_of h at n = cond h.drawn (Pairs n) (Table at.parents h.parents)
