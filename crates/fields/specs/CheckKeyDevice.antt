-- The rule `check_key_device` (document 01, kinds 1 and 2). Subject is the key's index, object 0.
use Rattle.std.specs.Prelude.{ℕ, Bool, not, ◌&&◌, ◌||◌, List, ◌++◌, eqb, ltb}
use Rattle.findings.specs.Findings.{Finding, finding, when}
use Rattle.book.specs.Book.{Bkey}

-- on another device than the book's, and neither deleted (type 0) nor a whiteout (1)
unfoldable pub elsewhere : ℕ → Bkey → Bool
elsewhere device k = not (eqb k.inode device) && ltb 1 k.key_type

-- 1 pointer_to_nonexistent_device: a key of alloc (4) or bucket_gens (14); 2 backpointer_for_missing_device: one of backpointers (13)
unfoldable pub check_key_device : ℕ → ℕ → Bkey → List Finding
check_key_device device i k =
    when (elsewhere device k && (eqb k.btree 4 || eqb k.btree 14)) (finding 1 i 0)
    ++ when (elsewhere device k && eqb k.btree 13) (finding 2 i 0)
