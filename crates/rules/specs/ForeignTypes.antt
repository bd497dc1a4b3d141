-- "It overlaps four old ones .. The new rule goes first, and a key to which both give kind 22 gets it once, there; its
-- other findings and their order stay" (document 02, ticket 4).
use Rattle.std.specs.Prelude.{ℕ, ◌≡◌, Bool, true, not, cond, ◌||◌, List, [], ◌++◌, eqb}
use Rattle.findings.specs.Findings.{Finding, finding, when, keep, count_of}
use Rattle.book.specs.Names.{dirents, subvolume_children, backpointers, key_xattr, key_logged_op_truncate}
use Rattle.book.specs.Names.{key_logged_op_finsert, key_inode_v3, key_snapshot}
use Rattle.book.specs.Book.{Bkey, is}
use Rattle.fields.specs.CheckKeyDevice.{check_key_device}
use Rattle.fields.specs.CheckKeyFields.{check_key_fields}
use Rattle.types.specs.CheckKeyType.{foreign_type}
use Rattle.states.specs.CheckStateWords.{check_state_words}
use Rattle.keys.specs.KeyFindings.{key_rules}

-- "xattr in dirents, logged operations 32 and 33 in subvolume_children, inode_v3 in backpointers, snapshot in
-- backpointers"
unfoldable pub formerly_foreign : Bkey → Bool
formerly_foreign k =
    is dirents key_xattr k
    || ((is subvolume_children key_logged_op_truncate k || is subvolume_children key_logged_op_finsert k)
    || (is backpointers key_inode_v3 k || is backpointers key_snapshot k))

-- document 01's rules on one key: `check_key_fields` gave kind 22, last of its findings
unfoldable pub former_rules : ℕ → ℕ → ℕ → Bkey → List Finding
former_rules device version i k =
    check_key_device device i k
    ++ ((check_key_fields i k ++ when (formerly_foreign k) (finding 22 i 0)) ++ check_state_words version i k)

-- the findings of other kinds, in their order
unfoldable pub others : ℕ → List Finding → List Finding
others kind fs = keep (λ (f : Finding). not (eqb f.kind kind)) fs

-- kind 22 among the findings of a key
pub record TypedOnce (device version i : ℕ) (k : Bkey) : Type 0 where
  -- wherever the old test holds the new one does
  pub overlap : formerly_foreign k ≡ true → foreign_type k.btree k.key_type ≡ true
  -- "gets it once"; a key of a type that its btree holds does not
  pub once : count_of 22 (key_rules device version i k) ≡ cond (foreign_type k.btree k.key_type) 1 0
  -- "its other findings and their order stay"
  pub stay : others 22 (key_rules device version i k) ≡ others 22 (former_rules device version i k)
  -- a key of a foreign type has no finding of its fields or its state words, so none follows its 22
  pub last : foreign_type k.btree k.key_type ≡ true → check_key_fields i k ++ check_state_words version i k ≡ []
