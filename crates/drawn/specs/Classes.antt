-- The pairs that stand for the maps of tree records and snapshots in the work words: a number above the place says which map a pair is of,
-- and of a snapshot how long its value is.
use Rattle.std.specs.Prelude.{ℕ, ◌+◌, ◌-◌, ◌*◌, ◌^◌, ◌≤◌, ◌<◌, cond, List, [], ◌∷◌, length, eqb, leb, None, Option, Some}
use Rattle.pairs.specs.Pairs.{pair, pair_at}
use Rattle.book.specs.Book.{Bkey, key_end}
use Rattle.walk.specs.Keys.{key_at}
use Rattle.book.specs.Words.{holds, id_of}
use Rattle.maps.specs.Places.{place_pair, last_place}
use Rattle.maps.specs.LastKeys.{later}

-- the class of a snapshot by its value bytes: 8 to 23, 24 to 39, 40 and more
unfoldable pub class_of : ℕ → ℕ
class_of bytes = cond (leb 40 bytes) 3 (cond (leb 24 bytes) 2 1)

-- the pair that a key gives: a tree record in map 0, a snapshot in the map of its class
unfoldable pub link_pair : ℕ → Bkey → List ℕ
link_pair p k = cond (holds 15 31 8 k) (place_pair 0 (id_of k) p ∷ []) (cond (holds 9 22 8 k) (place_pair (class_of (length k.value)) (id_of k) p ∷ []) [])

-- the last place of an id among the snapshots of this class and those above it
unfoldable pub latest : ℕ → ℕ → List ℕ → Option ℕ
latest class id xs =
    cond (eqb class 3) (last_place 3 id xs)
    (cond (eqb class 2) (later (last_place 2 id xs) (last_place 3 id xs))
    (later (last_place 1 id xs) (later (last_place 2 id xs) (last_place 3 id xs))))

-- at this place, if it is one, stands a key of the book with 8 value bytes or more
unfoldable pub SnapshotAt : List ℕ → Option ℕ → Type 0
SnapshotAt s None = Unit {0}
SnapshotAt s (Some q) = (length s ≤ 1048576) × (q + 28 ≤ length s) × (key_end s q ≤ length s) × (8 ≤ length (key_at s q).value)

-- the pair before place r of the words is not below those of the id and the class, and the one before that, if there is one, is
pub record Alone (class number : ℕ) (w : List ℕ) (r : ℕ) : Type 0 where
  pub some : 0 < r
  pub from : pair number (class * 2 ^ 32) ≤ pair_at w (r - 1)
  pub past : 1 < r → pair_at w (r - 2) < pair number (class * 2 ^ 32)
