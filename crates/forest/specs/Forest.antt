-- Demand 3 (document 01, "Snapshots"): what a forest book is, what it means that its snapshots are sound, and the claim on its findings.
-- "The words of demand 3 are read from the keys", and not from the parents table.
use Rattle.std.specs.Prelude.{ℕ, zero, suc, ◌≤◌, true, false, ◌↔◌, ◌⊎◌, List, [], ◌∷◌, map, ◌≡◌, length, eqb}
use Rattle.findings.specs.Findings.{Finding, keep}
use Rattle.book.specs.Book.{Bkey, Book}
use Rattle.book.specs.KeyMaps.{parents_of}
use Rattle.book.specs.Words.{parent_word, child_words, tree_word, depth_word, skip_words, root_word}
use Rattle.forest.specs.Lists.{◌∈◌, Distinct}

-- the keys of a btree, in book order
unfoldable pub keys_of : ℕ → Book → List Bkey
keys_of n b = keep (λ k. eqb k.btree n) b.keys

-- "A snapshot is a btree 9 key, its id the offset"
abbrev pub snapshots : Book → List Bkey
snapshots b = keys_of 9 b

-- "a tree record is a btree 15 key, named by its offset"
abbrev pub records : Book → List Bkey
records b = keys_of 15 b

-- THE PREMISES

-- a well-formed snapshot or tree key: its type, its least number of value bytes, and an offset from 1 to 4,294,967,295
pub record WellFormed (key_type least : ℕ) (k : Bkey) : Type 0 where
  pub typed : k.key_type ≡ key_type
  pub long : least ≤ length k.value
  pub above_zero : 1 ≤ k.offset
  pub fits : k.offset ≤ 4294967295

-- "True parents table: exactly these snapshot ids with their parent words"
abbrev pub TrueParents : Book → Type 0
TrueParents b =
    (id parent : ℕ) → ((id, parent) ∈ parents_of b) ↔ ((s : Bkey) × (s ∈ snapshots b) × (s.offset ≡ id) × (parent_word s ≡ parent))

-- a forest book: the trees mark, well-formed snapshot and tree keys with distinct offsets, and a true parents table; with the drawn mark
-- "demand 3 and the forest book do without the premise on the table"
pub record ForestBook (b : Book) : Type 0 where
  pub mark : b.header.trees ≡ true
  pub snapshots_formed : (s : Bkey) → s ∈ snapshots b → WellFormed 22 40 s
  pub records_formed : (t : Bkey) → t ∈ records b → WellFormed 31 8 t
  pub snapshots_distinct : Distinct (map (λ (k : Bkey). k.offset) (snapshots b))
  pub records_distinct : Distinct (map (λ (k : Bkey). k.offset) (records b))
  pub table_true : b.header.drawn ≡ false → TrueParents b

-- LINKS

-- a link leads from a snapshot to the snapshot that its parent word names
abbrev pub Link : Book → Bkey → Bkey → Type 0
Link b s p = (p ∈ snapshots b) × (p.offset ≡ parent_word s)

-- n links lead from s to a
abbrev pub Links : Book → ℕ → Bkey → Bkey → Type 0
Links b zero s a = s ≡ a
Links b (suc n) s a = (p : Bkey) × Link b s p × Links b n p a

-- a is an ancestor of s: at one or more links
abbrev pub Ancestor : Book → Bkey → Bkey → Type 0
Ancestor b s a = (n : ℕ) × Links b (suc n) s a

-- a is in the chain of s: s itself or an ancestor
abbrev pub InChain : Book → Bkey → Bkey → Type 0
InChain b s a = (s ≡ a) ⊎ Ancestor b s a

-- the chains of s and u meet
abbrev pub ChainsMeet : Book → Bkey → Bkey → Type 0
ChainsMeet b s u = (a : Bkey) × InChain b s a × InChain b u a

-- SOUND SNAPSHOTS

-- s reaches the parentless r, its root, by n links, at most 1,024
pub record Rooted (b : Book) (s r : Bkey) (n : ℕ) : Type 0 where
  pub reaches : Links b n s r
  pub parentless : parent_word r ≡ 0
  pub within : n ≤ 1024

-- the tree record of s is there, and names the id of r
abbrev pub RecordNames : Book → Bkey → Bkey → Type 0
RecordNames b s r = (t : Bkey) × (t ∈ records b) × (t.offset ≡ tree_word s) × (root_word t ≡ r.offset)

-- a snapshot with its root: its depth word is the number of links, and its tree record names that root
abbrev pub RootedRight : Book → Bkey → Type 0
RootedRight b s = (r : Bkey) × (n : ℕ) × Rooted b s r n × (depth_word s ≡ n) × RecordNames b s r

-- the root of the tree record t names it back
abbrev pub NamedBack : Book → Bkey → Type 0
NamedBack b t = (r : Bkey) × (r ∈ snapshots b) × (r.offset ≡ root_word t) × (tree_word r ≡ t.offset)

-- the word names a snapshot whose parent is s
abbrev pub NamesChild : Book → Bkey → ℕ → Type 0
NamesChild b s word = (c : Bkey) × (c ∈ snapshots b) × (c.offset ≡ word) × (parent_word c ≡ s.offset)

-- the word names s or an ancestor of s
abbrev pub NamesChain : Book → Bkey → ℕ → Type 0
NamesChain b s word = (a : Bkey) × InChain b s a × (a.offset ≡ word)

-- the right side of demand 3
pub record Sound (b : Book) : Type 0 where
  pub roots : (s : Bkey) → s ∈ snapshots b → RootedRight b s
  pub back : (t : Bkey) → t ∈ records b → NamedBack b t
  pub children : (s : Bkey) → s ∈ snapshots b → (word : ℕ) → word ∈ child_words s → (word ≡ 0 → ⊥) → NamesChild b s word
  pub skips : (s : Bkey) → s ∈ snapshots b → (word : ℕ) → word ∈ skip_words s → (word ≡ 0 → ⊥) → NamesChain b s word

-- THE CLAIM

-- the forest kinds
abbrev pub forest_kinds : List ℕ
forest_kinds = 39 ∷ 41 ∷ 42 ∷ 44 ∷ 45 ∷ []

-- the forest kinds are all absent from the findings
abbrev pub Absent : List Finding → Type 0
Absent findings = (f : Finding) → f ∈ findings → f.kind ∈ forest_kinds → ⊥

-- demand 3 of a book and its findings
pub record Demand3 (b : Book) (findings : List Finding) : Type 0 where
  pub exact : Absent findings ↔ Sound b
  pub acyclic : Absent findings → (s : Bkey) → s ∈ snapshots b → Ancestor b s s → ⊥
  pub trees : Absent findings → (s u : Bkey) → s ∈ snapshots b → u ∈ snapshots b → (tree_word s ≡ tree_word u) ↔ ChainsMeet b s u
