-- The drawn map: what it has for an id, by the pairs in the work words and by a walk over the keys.
use Rattle.std.specs.Prelude.{None, Option, Some}
use Prim.Native.Nat.{ℕ, ◌≤◌}
use mathlib.Core.Path.{◌≡◌, refl}
use mathlib.Core.List.{List}
use native.Mathlib.Omega.{arith}
use lib.ListN.{length}
use Rattle.book.specs.Maps.{lookup}
use Rattle.book.specs.KeyMaps.{drawn_from}
use Rattle.book.specs.Book.{keys_from}
use Rattle.book.specs.Words.{holds, parent_word, id_of}
use Rattle.book.specs.Walk.{KeysFit}
use Rattle.maps.specs.Sorted.{AllPairs}
use Rattle.maps.specs.LastKeys.{last_key, word_at}
use Rattle.maps.proofs.LastKeys.{key_law, key_held}
use Rattle.drawn.specs.Classes.{link_pair, latest, SnapshotAt}
use Rattle.drawn.proofs.Classes.{bytes_of, latest_law, latest_held}
use Rattle.drawn.proofs.Scan.{held_snapshot}

-- a place of which it is known that a snapshot stands there, if it is one
placed : (s : List ℕ) (m : Option ℕ) → ((q : ℕ) → m ≡ Some q → SnapshotAt s (Some q)) → SnapshotAt s m
placed s None h = unfold SnapshotAt in tt
placed s (Some q) h = h q refl

-- by the pairs
module _ {s : List ℕ} {n p : ℕ} {xs : List ℕ} (a : AllPairs link_pair s n p xs) (x : ℕ) where
  pub drawn_latest : lookup x (drawn_from (keys_from s n p)) ≡ word_at parent_word s (latest 1 x xs)
  unfolding drawn_from bytes_of
  drawn_latest = latest_law a x 1 parent_word

  pub latest_snapshot : SnapshotAt s (latest 1 x xs)
  unfolding bytes_of
  latest_snapshot = placed s (latest 1 x xs) (λ q e. held_snapshot s 8 (omega arith) a.small (latest_held a x 1 q e))

-- by a walk
module _ (s : List ℕ) (n p x : ℕ) (small : length s ≤ 1048576) (fit : KeysFit s n p) where
  pub drawn_last : lookup x (drawn_from (keys_from s n p)) ≡ word_at parent_word s (last_key (holds 9 22 8) id_of s x n p)
  unfolding drawn_from
  drawn_last = key_law (holds 9 22 8) id_of parent_word s x n p small fit

  pub last_snapshot : SnapshotAt s (last_key (holds 9 22 8) id_of s x n p)
  last_snapshot = placed s (last_key (holds 9 22 8) id_of s x n p) (λ q e. held_snapshot s 8 (omega arith) small (key_held (holds 9 22 8) id_of s x n p fit q e))
