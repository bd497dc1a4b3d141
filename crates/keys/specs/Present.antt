-- The btrees of which a book has keys.
use Rattle.std.specs.Prelude.{ℕ, Bool, false, ◌||◌, List, [], ◌∷◌, eqb}
use Rattle.book.specs.Book.{Bkey}
use Rattle.walk.specs.Keys.{any_key}
use Rattle.keys.specs.declared.Present.{Present}

-- some key is of btree b
unfoldable pub has_btree : ℕ → List Bkey → Bool
has_btree b keys = any_key (λ k. eqb k.btree b) keys

-- p, and the btree b
unfoldable pub with_btree : Present → ℕ → Present
with_btree p b =
    record {
      subvolumes = p.subvolumes || eqb b 8;
      snapshots = p.snapshots || eqb b 9;
      gens = p.gens || eqb b 14;
      trees = p.trees || eqb b 15;
      children = p.children || eqb b 19;
    }

-- p, and the btrees of these keys
unfoldable pub present_with : Present → List Bkey → Present
present_with p [] = p
present_with p (k ∷ ks) = present_with (with_btree p k.btree) ks

-- those of these keys
unfoldable pub present_in : List Bkey → Present
present_in keys = present_with (record { subvolumes = false; snapshots = false; gens = false; trees = false; children = false }) keys
