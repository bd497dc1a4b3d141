-- What only contracts of private functions cite.
use Rattle.std.specs.Prelude.{ℕ, ◌+◌, ◌%◌, ◌^◌, ◌≤◌, min, ◌≡◌, Bool, true, false, cond, not, ◌&&◌, ◌||◌, List, [], ◌∷◌, length, eqb, leb, ltb, None, Option, Some}
use Rattle.book.specs.Maps.{lookup}
use Rattle.book.specs.Book.{Bkey, Book, key_end}
use Rattle.walk.specs.Keys.{key_at}
use Rattle.maps.specs.Places.{place_pair, number_in}
use Rattle.children.specs.declared.Child.{Child}
use Rattle.children.specs.SubvolumeChildren.{has_fs_parent, fs_parents, is_entry}

-- map 0: the places of subvolumes with a parent, by their offsets; set 1: the parents of entries, by their children, where a number of more
-- than 32 bits, which is no subvolume's parent, stands as 2 ^ 32
unfoldable pub child_pair : ℕ → Bkey → List ℕ
child_pair p k = cond (has_fs_parent k) (place_pair 0 k.offset p ∷ []) (cond (is_entry k) (place_pair 1 k.offset (min k.inode (2 ^ 32)) ∷ []) [])

-- whether the second word of a pair is that of an entry, and another one than this parent of the child makes
unfoldable pub wrong_word : ℕ → Option ℕ → Bool
wrong_word y None = not (ltb y (2 ^ 32))
wrong_word y (Some parent) = not (ltb y (2 ^ 32)) && (leb (2 ^ 33) y || not (eqb y (2 ^ 32 + parent)))

-- whether some pair is that of an entry whose child has another parent, or is not there, by the parents
unfoldable pub any_wrong : List (ℕ × ℕ) → List ℕ → Bool
any_wrong parents [] = false
any_wrong parents (x ∷ xs) = wrong_word (x % 2 ^ 64) ((lookup (number_in x) parents)) || any_wrong parents xs

-- at byte p of a book stands a subvolume with a parent
pub record AtChild (s : List ℕ) (p : ℕ) : Type 0 where
  pub small : length s ≤ 1048576
  pub head : p + 28 ≤ length s
  pub inside : key_end s p ≤ length s
  pub parent : has_fs_parent (key_at s p) ≡ true

-- the parent of the child is known
pub record Known (b : Book) (c : Child) : Type 0 where
  pub parent : c.parent ≡ (lookup c.number (fs_parents b))
