-- The rules on one key, and the keys one after the other.
use Rattle.std.proofs.Common.{◌≡◌, ℕ, ◌+◌, List, [], ◌∷◌, ◌++◌, false}
use Rattle.std.specs.Prelude.{Some}
use Rattle.findings.specs.Findings.{Finding, each}
use Rattle.findings.proofs.Walk.{each_cons, each_none}
use Rattle.book.specs.declared.KeyHead.{KeyHead}
use Rattle.book.specs.declared.open.Book.{Book}
use Rattle.book.specs.declared.open.Key.{Key}
use Rattle.book.specs.declared.open.Keys.{Keys}
use Rattle.book.specs.Book.{Bkey, bkey, key_head, keys_from, book_of}
use Rattle.book.specs.Turns.{held, GivesKey}
use Rattle.book.proofs.Walk.{parts, step, no_keys}
use Rattle.fields.specs.CheckKeyDevice.{check_key_device}
use Rattle.fields.specs.CheckKeyFields.{check_key_fields}
use Rattle.fields.proofs.Laws.{device_any}
use Rattle.types.specs.CheckKeyType.{check_key_type}
use Rattle.types.proofs.Laws.{type_any}
use Rattle.states.specs.CheckStateWords.{check_state_words}
use Rattle.keys.specs.declared.Present.{Present}
use Rattle.keys.specs.KeyFindings.{key_findings}
use Rattle.keys.specs.Present.{with_btree, present_with}
use Rattle.keys.proofs.Foreign.{rules_turn}

-- a key of a book by its head and its value: the rule on its type may stand before those on its fields and its state words
pub key_judged : (b : Book) (k : Key) (i : ℕ) {h : KeyHead} {v : List ℕ} → h ≡ key_head k.book.now k.at → v ≡ (held k).value
    → check_key_device b.header.device i (bkey h []) ++ (check_key_type i (bkey h []) ++ (check_key_fields i (bkey h v) ++ check_state_words b.header.version i (bkey h v)))
    ≡ key_findings (book_of b.bytes.now) i (held k)
unfolding key_findings
key_judged b k i head value =
    let h = key_head k.book.now k.at in
    rw (head, value, device_any b.header.device i h [] (held k).value, type_any i h [] (held k).value, (parts b.opened).header)
    (rules_turn b.header.device b.header.version i (held k))

-- ---- the keys that are left

abbrev pub left_keys : Keys → List Bkey
left_keys it = keys_from it.book.now it.left it.at

pub keys_all : (b : Book) (it : Keys) → it.book.now ≡ b.bytes.now → (it.at ≡ b.places.keys) × (it.left ≡ b.header.keys)
    → (book_of b.bytes.now).keys ≡ left_keys it
keys_all b it e f = rw (e, f.0, f.1, (parts b.opened).keys)

module _ (it it' : Keys) (k : Key) (g : GivesKey it (Some k) it') where
  key_first : left_keys it ≡ held k ∷ left_keys it'
  key_first = rw (g.1, g.2, g.3, g.4, g.5) (step it.book.now it.left it.at g.0 it.fit).keys

  pub judged_next : (at : ℕ → Bkey → List Finding) (i : ℕ) → each at i (left_keys it) ≡ at i (held k) ++ each at (i + 1) (left_keys it')
  judged_next at i = each_cons at i key_first

  pub present_next : (q : Present) → present_with q (left_keys it) ≡ present_with (with_btree q k.front.btree) (left_keys it')
  unfolding present_with
  present_next q = rw (key_first, k.stands.front)

module _ (it : Keys) (none : it.left ≡ 0) where
  none_left : left_keys it ≡ []
  none_left = no_keys it.book.now it.at {n = it.left} none

  pub judged_end : (at : ℕ → Bkey → List Finding) (i : ℕ) → each at i (left_keys it) ≡ []
  judged_end at i = each_none at i none_left

  pub present_end : (q : Present) → present_with q (left_keys it) ≡ q
  unfolding present_with
  present_end q = rw none_left

-- no btrees
pub no_btrees : (p : Present) → p.subvolumes ≡ false → p.snapshots ≡ false → p.gens ≡ false → p.trees ≡ false → p.children ≡ false
    → record { subvolumes = false; snapshots = false; gens = false; trees = false; children = false } ≡ p
no_btrees p a b c d e = rw (a, b, c, d, e)
