-- The two maps that the pairs of the keys stand for.
use Rattle.std.specs.Prelude.{None, Some}
use Prim.Native.Nat.{ℕ, ◌+◌, ◌*◌, ◌%◌, ◌^◌, ◌≤◌, ◌<◌}
use mathlib.Core.Path.{◌≡◌, refl, sym, subst}
use mathlib.Core.Bool.{Bool, true, false, cond}
use mathlib.Core.List.{List}
use native.Mathlib.Omega.{arith}
use lib.ListN.{length, get_or, drop}
use Rattle.bits.specs.Bits.{le_at}
use Rattle.findings.specs.Findings.{each}
use Rattle.pairs.specs.Pairs.{pairs_of}
use Rattle.book.specs.declared.Header.{Header}
use Rattle.book.specs.declared.Places.{Places}
use Rattle.book.specs.declared.KeyFront.{KeyFront}
use Rattle.book.specs.Maps.{lookup}
use Rattle.book.specs.Book.{Bkey, is, key_head, key_end, keys_from, book_of}
use Rattle.book.specs.Walk.{front_of}
use Rattle.book.proofs.Walk.{parts}
use Rattle.walk.specs.Keys.{key_at, AtKey}
use Rattle.book.specs.KeyMaps.{map_of}
use Rattle.maps.specs.Places.{last_place, last_places}
use Rattle.maps.specs.Sorted.{last_at}
use Rattle.maps.proofs.Places.{Held, find_law, find_held, each_map, last_held, held_at}
use Rattle.maps.specs.LastKeys.{word_at}
use Rattle.book.specs.Words.{holds, tree_word, master_word, root_word, id_of}
use Rattle.links.specs.SnapshotLinks.{tree_map, tree_of_map, tree_findings}
use Rattle.links.specs.Steps.{root_named, tree_at, source_of, Ready}
use Rattle.drawn.specs.Classes.{latest}
use Rattle.drawn.proofs.Classes.{bytes_of, trees_give, latest_law, latest_held}
use Rattle.book.proofs.AtKey.{long_enough}
use Rattle.links.specs.declared.linked.Linked.{Linked}
use Rattle.parents.specs.declared.Source.{Source}
use Rattle.parents.specs.declared.Source.TheVariants.{Table, Pairs}
use Rattle.parents.specs.Sources.{Sourced}

-- ---- what is looked up

-- a key that was found may be read
module _ (b t m : ℕ) {s : List ℕ} {x q : ℕ} (small : length s ≤ 1048576) (h : Held (holds b t m) id_of s x q) where
  pub held_read : (length s ≤ 1048576) × (q + 28 ≤ length s) × (key_end s q ≤ length s)
  held_read = (small, h.head, h.inside)

  pub held_long : m ≤ length (key_at s q).value
  unfolding holds
  held_long = long_enough (is b t (key_at s q)) m (length (key_at s q).value) h.passes

-- what is known of a book and its pairs
pub ready : (l : Linked) → Ready l.book.bytes.now l.book.header l.book.places l.pairs.words.now l.pairs.count
ready l =
    let p = parts l.book.opened in
    record { opened = l.book.opened; few = l.few; room = l.pairs.inside; pairs = record { small = p.small; fit = p.keys_fit; all = l.all } }

-- the words of a tree record
abbrev tree_words : Bkey → ℕ × ℕ
tree_words k = (master_word k, root_word k)

module _ {s : List ℕ} {h : Header} {at : Places} {w : List ℕ} {n : ℕ} (r : Ready s h at w n) where
  pub ready_small : length s ≤ 1048576
  ready_small = r.pairs.small

  trees_keys : tree_map (book_of s) ≡ map_of (holds 15 31 8) id_of tree_words (keys_from s h.keys at.keys)
  unfolding tree_map
  trees_keys = rw (parts r.opened).keys

  names_keys : tree_of_map (book_of s) ≡ map_of (holds 9 22 24) id_of tree_word (keys_from s h.keys at.keys)
  unfolding tree_of_map
  names_keys = rw (parts r.opened).keys

  module _ (id : ℕ) where
    pub tree_held : {q : ℕ} → last_place 0 id (pairs_of w n) ≡ Some q → Held (holds 15 31 8) id_of s id q
    tree_held {q} e = find_held trees_give r.pairs id q e

    pub name_held : {q : ℕ} → latest 2 id (pairs_of w n) ≡ Some q → Held (holds 9 22 24) id_of s id q
    unfolding bytes_of
    name_held {q} e = latest_held r.pairs id 2 q e

    pub root_found : {q v : ℕ} → last_place 0 id (pairs_of w n) ≡ Some q → v ≡ le_at (key_at s q).value 4 4 → Some v ≡ (root_named (lookup id (tree_map (book_of s))))
    unfolding root_named word_at
    root_found e v = rw (trees_keys, find_law trees_give r.pairs tree_words id, e, v)

    pub root_absent : last_place 0 id (pairs_of w n) ≡ None → None ≡ (root_named (lookup id (tree_map (book_of s))))
    unfolding root_named word_at
    root_absent e = rw (trees_keys, find_law trees_give r.pairs tree_words id, e)

    latest_names : lookup id (map_of (holds 9 22 24) id_of tree_word (keys_from s h.keys at.keys)) ≡ word_at tree_word s (latest 2 id (pairs_of w n))
    unfolding bytes_of
    latest_names = latest_law r.pairs id 2 tree_word

    pub name_found : {q v : ℕ} → latest 2 id (pairs_of w n) ≡ Some q → v ≡ le_at (key_at s q).value 20 4 → Some v ≡ (lookup id (tree_of_map (book_of s)))
    unfolding word_at
    name_found e v = rw (names_keys, latest_names, e, v)

    pub name_absent : latest 2 id (pairs_of w n) ≡ None → None ≡ (lookup id (tree_of_map (book_of s)))
    unfolding word_at
    name_absent e = rw (names_keys, latest_names, e)

  -- the parents are found where `source_of` says
  pub ready_source : {src : Source} → src ≡ source_of h at n → Sourced s w src
  unfolding source_of Sourced
  ready_source e = subst (Sourced s w) (sym e) (by h.drawn refl)
    where
      by : (d : Bool) → h.drawn ≡ d → Sourced s w (cond d (Pairs n) (Table at.parents h.parents))
      by true d = record { room = r.room; count = h.keys; start = at.keys; all = r.pairs; drawn = (parts r.opened).drawn d }
      by false d = record { rises = (parts r.opened).parents_rise; table = (parts r.opened).parents d }

  -- the trees in id order are the last places of tree records
  pub last_tree : (i : ℕ) → i < n → ((k : ℕ) → get_or w k 0 < 2 ^ 64) → last_at 0 (drop i (pairs_of w n)) ≡ true → Held (holds 15 31 8) id_of s (get_or w (2 * i) 0) (get_or w (2 * i + 1) 0 % 2 ^ 32)
  last_tree i l small e = last_held trees_give w n r.pairs i l small e

  pub trees_each : each (λ _ e. tree_findings (book_of s) e) 0 (tree_map (book_of s)) ≡ each (λ _ e. tree_findings (book_of s) (tree_at s e)) 0 (last_places 0 (pairs_of w n))
  trees_each = rw trees_keys (each_map trees_give r.pairs tree_words (tree_findings (book_of s)))
