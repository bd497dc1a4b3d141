-- What the code computes of unavailable subvolumes, live snapshots and tree records is what the rule asks of them.
use Prim.Native.Nat.{ℕ, ◌+◌, ◌*◌}
use mathlib.Core.Path.{◌≡◌}
use mathlib.Core.Bool.{Bool, true, false, ◌&&◌}
use mathlib.Core.List.{List, [], ◌∷◌}
use lib.ListN.{length}
use lib.Dec.{eqb, leb}
use Rattle.bits.specs.Bits.{le_at}
use Rattle.pairs.specs.Pairs.{pair}
use Rattle.std.specs.Prelude.{Some}
use Rattle.book.specs.declared.open.Book.{Book}
use Rattle.book.specs.declared.open.Key.{Key}
use Rattle.book.specs.declared.open.Keys.{Keys}
use Rattle.book.specs.Book.{Bkey, is, keys_from, book_of}
use Rattle.book.specs.Turns.{held, GivesKey}
use Rattle.book.proofs.Walk.{parts, step, no_keys}
use Rattle.subvolumes.specs.SubvolumeStates.{is_live_snapshot, unavailable, is_unavailable}
use Rattle.walk.specs.Keys.{any_key}
use Rattle.subvolumes.specs.Steps.{is_tree, in_group, group_of, state_pair}

-- ---- the pair that a key gives

module _ (k : Bkey) (p : ℕ) where
  pub state_snapshot : is_live_snapshot k ≡ true → {w : ℕ} → w ≡ le_at k.value 16 4 → pair (2 * w) p ∷ [] ≡ state_pair p k
  unfolding state_pair in_group group_of
  state_snapshot e w = rw (e, w)

  pub state_tree : is_live_snapshot k ≡ false → is 15 31 k && leb 8 (length k.value) ≡ true → {w : ℕ} → w ≡ le_at k.value 0 4
      → pair (2 * w + 1) p ∷ [] ≡ state_pair p k
  unfolding state_pair in_group group_of is_tree
  state_tree e t w = rw (e, t, w)

  pub state_none : is_live_snapshot k ≡ false → is 15 31 k && leb 8 (length k.value) ≡ false → [] ≡ state_pair p k
  unfolding state_pair in_group is_tree
  state_none e t = rw (e, t)

-- ---- the keys that are left to look at

abbrev pub rest_of : Keys → List Bkey
rest_of it = keys_from it.book.now it.left it.at

pub all_left : (b : Book) (it : Keys) → it.book.now ≡ b.bytes.now → (it.at ≡ b.places.keys) × (it.left ≡ b.header.keys) → (book_of b.bytes.now).keys ≡ rest_of it
all_left b it e f = rw (e, f.0, f.1, (parts b.opened).keys)

key_first : (it it' : Keys) (k : Key) → GivesKey it (Some k) it' → rest_of it ≡ held k ∷ rest_of it'
key_first it it' k g = rw (g.1, g.2, g.3, g.4, g.5) (step it.book.now it.left it.at g.0 it.fit).keys

none_left : (it : Keys) → it.left ≡ 0 → rest_of it ≡ []
none_left it e = no_keys it.book.now it.at {n = it.left} e

-- whether some key passes a test
module _ (test : Bkey → Bool) where
  module _ (it it' : Keys) (k : Key) (g : GivesKey it (Some k) it') where
    pub any_here : test (held k) ≡ true → any_key test (rest_of it) ≡ true
    unfolding any_key
    any_here e = rw (key_first it it' k g, e)

    pub any_next : test (held k) ≡ false → any_key test (rest_of it) ≡ any_key test (rest_of it')
    unfolding any_key
    any_next e = rw (key_first it it' k g, e)

  pub any_end : (it : Keys) → it.left ≡ 0 → any_key test (rest_of it) ≡ false
  unfolding any_key
  any_end it e = rw (none_left it e)

-- the set of unavailable subvolumes
module _ (id : ℕ) where
  module _ (it it' : Keys) (k : Key) (g : GivesKey it (Some k) it') {gone : Bool} {offset : ℕ} (is-gone : gone ≡ unavailable (held k))
      (is-offset : offset ≡ (held k).offset) where
    pub gone_here : gone && eqb offset id ≡ true → is_unavailable id (rest_of it) ≡ true
    unfolding is_unavailable
    gone_here e = rw (key_first it it' k g, ← is-gone, ← is-offset, e)

    pub gone_next : gone && eqb offset id ≡ false → is_unavailable id (rest_of it) ≡ is_unavailable id (rest_of it')
    unfolding is_unavailable
    gone_next e = rw (key_first it it' k g, ← is-gone, ← is-offset, e)

  pub gone_end : (it : Keys) → it.left ≡ 0 → is_unavailable id (rest_of it) ≡ false
  unfolding is_unavailable
  gone_end it e = rw (none_left it e)
