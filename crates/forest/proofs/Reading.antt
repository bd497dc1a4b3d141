-- In a forest book each map reads its keys: an id has in it the word of the one key with that offset.
use Rattle.std.specs.Prelude.{None, Some}
use mathlib.Core.Bool.{Bool, true, false, cond, ◌&&◌}
use mathlib.Core.Logic.{◌⊎◌, inl, inr}
use mathlib.Core.List.Memᴰ
use mathlib.Core.List.{List, [], ◌∷◌, map}
use mathlib.Core.Path.{◌≡◌, refl, ap, ap₂, sym, subst, ◌∙◌}
use Prim.Native.Nat.{ℕ, ◌≤◌}
use native.Mathlib.Omega.{arith}
use native.Mathlib.Nat.{mod-eq_of_lt}
use lib.ListN.{length}
use lib.Dec.{eqb, leb}
use borrow.Author.Tests.{eq-eqb, le-leb}
use Rattle.forest.specs.Lists.{◌∈◌, Distinct}
use Rattle.findings.specs.Findings.{keep}
use Rattle.book.specs.Book.{Bkey, Book, is}
use Rattle.book.specs.Words.{parent_word, tree_word, master_word, root_word, id_of, holds}
use Rattle.forest.specs.Forest.{keys_of, snapshots, records, WellFormed, TrueParents, ForestBook}
use Rattle.book.specs.Maps.{lookup, collect}
use Rattle.book.specs.KeyMaps.{map_of, drawn_from, parents_of}
use Rattle.links.specs.SnapshotLinks.{tree_map, tree_of_map}
use Rattle.forest.proofs.Lists.{map_mem, mem_map, map_same, keep_same, mem_keep, distinct_same}
use Rattle.forest.proofs.Maps.{eq_or_not, lookup_here, lookup_past, lookup_mem, collect_lookup, collect_mem, last_of_distinct, ids}

-- `m` reads `word` of the keys `ks`
pub record Reads {A : Type 0} (m : List (ℕ × A)) (ks : List Bkey) (word : Bkey → A) : Type 0 where
  pub at : (k : Bkey) → k ∈ ks → lookup k.offset m ≡ Some (word k)
  pub from : (i : ℕ) (v : A) → lookup i m ≡ Some v → (k : Bkey) × (k ∈ ks) × (k.offset ≡ i) × (word k ≡ v)

pub id_same : (k : Bkey) → k.offset ≤ 4294967295 → id_of k ≡ k.offset
unfolding id_of
id_same k h = mod-eq_of_lt (omega arith)

-- the offsets of keys
abbrev pub offsets : List Bkey → List ℕ
offsets ks = map (λ (k : Bkey). k.offset) ks

-- the map of these keys, by their ids
abbrev made : {A : Type 0} → (Bkey → A) → List Bkey → List (ℕ × A)
made word ks = collect (map (λ k. (id_of k, word k)) ks)

module _ {A : Type 0} (word : Bkey → A) (ks : List Bkey) (fits : (k : Bkey) → k ∈ ks → k.offset ≤ 4294967295) (d : Distinct (offsets ks)) where
  pairs : List (ℕ × A)
  pairs = map (λ k. (id_of k, word k)) ks

  pairs_are : pairs ≡ map (λ k. (k.offset, word k)) ks
  unfolding pairs
  pairs_are = map_same _ _ ks (λ k m. ap (λ (i : ℕ). (i, word k)) (id_same k (fits k m)))

  pub made_mem : (e : ℕ × A) → e ∈ made word ks → (k : Bkey) × (k ∈ ks) × (e ≡ (k.offset, word k))
  unfolding pairs
  made_mem e m = map_mem (λ k. (k.offset, word k)) ks e (rw pairs_are at (collect_mem e pairs m))

  distinct_pairs : Distinct (ids pairs)
  unfolding pairs
  distinct_pairs = subst Distinct (sym (ids_are ks fits)) d
    where
      ids_are : (l : List Bkey) → ((k : Bkey) → k ∈ l → k.offset ≤ 4294967295) → ids (map (λ k. (id_of k, word k)) l) ≡ offsets l
      ids_are [] f = refl
      ids_are (k ∷ l) f =
          ap₂ ◌∷◌ (id_same k (f k (Memᴰ.head refl))) (ids_are l (λ x m. f x (Memᴰ.tail m)))

  pub made_at : (k : Bkey) → k ∈ ks → lookup k.offset (made word ks) ≡ Some (word k)
  unfolding pairs
  made_at k m =
      collect_lookup k.offset pairs
      ∙ last_of_distinct k.offset (word k) None pairs distinct_pairs (rw pairs_are (mem_map (λ x. (x.offset, word x)) m))

  pub made_from : (i : ℕ) (v : A) → lookup i (made word ks) ≡ Some v → (k : Bkey) × (k ∈ ks) × (k.offset ≡ i) × (word k ≡ v)
  made_from i v h =
      let r = made_mem (i, v) (lookup_mem i (made word ks) v h) in
      (r.0, r.1, ap (λ (x : ℕ × A). x.0) (sym r.2), ap (λ (x : ℕ × A). x.1) (sym r.2))

  pub made_reads : Reads (made word ks) ks word
  made_reads = record { at = made_at; from = made_from }

pub mem_lookup : {A : Type 0} (i : ℕ) (v : A) (m : List (ℕ × A)) → (i, v) ∈ m → (w : A) × (lookup i m ≡ Some w)
mem_lookup i v [] h = absurd (Memᴰ.not-nil h)
mem_lookup {A} i v (e ∷ m) (Memᴰ.head p) = (e.1, lookup_here i e m (ap (λ (x : ℕ × A). x.0) p))
mem_lookup {A} i v (e ∷ m) (Memᴰ.tail h) = go (eq_or_not i e.0) (mem_lookup i v m h)
  where
    go : (i ≡ e.0) ⊎ (i ≡ e.0 → ⊥) → (w : A) × (lookup i m ≡ Some w) → (w : A) × (lookup i (e ∷ m) ≡ Some w)
    go (inl p) r = (e.1, lookup_here i e m p)
    go (inr p) r = (r.0, lookup_past i e m p ∙ r.1)

-- where the keys of a btree are well formed, they are those that hold any number of value bytes up to their least
formed_holds : (btree key_type least n : ℕ) (k : Bkey) → n ≤ least → (eqb k.btree btree ≡ true → WellFormed key_type least k)
    → holds btree key_type n k ≡ eqb k.btree btree
unfolding holds is
formed_holds btree key_type least n k h formed = go (eqb k.btree btree) refl
  where
    go : (c : Bool) → eqb k.btree btree ≡ c → (c && eqb k.key_type key_type) && leb n (length k.value) ≡ c
    go true e = let w = formed e in rw (eq-eqb k.key_type key_type w.typed, le-leb n (length k.value) (omega (arith, w.long)))
    go false e = refl

-- the words of a tree record
abbrev pub record_words : Bkey → ℕ × ℕ
record_words k = (master_word k, root_word k)

module _ (b : Book) (F : ForestBook b) where
  pub snapshot_same : (s u : Bkey) → s ∈ snapshots b → u ∈ snapshots b → s.offset ≡ u.offset → s ≡ u
  snapshot_same = distinct_same (λ (k : Bkey). k.offset) (snapshots b) F.snapshots_distinct

  pub record_same : (s u : Bkey) → s ∈ records b → u ∈ records b → s.offset ≡ u.offset → s ≡ u
  record_same = distinct_same (λ (k : Bkey). k.offset) (records b) F.records_distinct

  -- every snapshot key and every tree key is judged
  pub all_snapshots : (n : ℕ) → n ≤ 40 → keep (holds 9 22 n) b.keys ≡ snapshots b
  unfolding keys_of
  all_snapshots n h =
      keep_same (holds 9 22 n) (λ k. eqb k.btree 9) b.keys
      (λ k m. formed_holds 9 22 40 n k h (λ e. F.snapshots_formed k (mem_keep (λ k. eqb k.btree 9) b.keys k m e)))

  pub all_records : keep (holds 15 31 8) b.keys ≡ records b
  unfolding keys_of
  all_records =
      keep_same (holds 15 31 8) (λ k. eqb k.btree 15) b.keys
      (λ k m. formed_holds 15 31 8 8 k (omega arith) (λ e. F.records_formed k (mem_keep (λ k. eqb k.btree 15) b.keys k m e)))

  -- in a book with the drawn mark the map that is drawn from the keys is true: each snapshot id with its parent word, and nothing else
  pub drawn_true : b.header.drawn ≡ true → TrueParents b
  unfolding parents_of drawn_from map_of
  drawn_true e id parent =
      let fits : (k : Bkey) → k ∈ snapshots b → k.offset ≤ 4294967295 = λ k m. (F.snapshots_formed k m).fits in
      let same : parents_of b ≡ made parent_word (snapshots b)
      = ap (λ (d : Bool). cond d (drawn_from b.keys) b.parents) e ∙ ap (λ (ks : List Bkey). made parent_word ks) (all_snapshots 8 (omega arith)) in (
        (λ m.
            let r = made_mem parent_word (snapshots b) fits F.snapshots_distinct (id, parent) (subst (λ (t : List (ℕ × ℕ)). (id, parent) ∈ t) same m) in
            (r.0, r.1, ap (λ (x : ℕ × ℕ). x.0) (sym r.2), ap (λ (x : ℕ × ℕ). x.1) (sym r.2))),
        (λ r.
            subst (λ (t : List (ℕ × ℕ)). (id, parent) ∈ t) (sym same)
            (lookup_mem id (made parent_word (snapshots b)) parent
            (ap (λ (i : ℕ). lookup i (made parent_word (snapshots b))) (sym r.2) ∙ made_at parent_word (snapshots b) fits F.snapshots_distinct r.0 r.1 ∙ ap Some r.3))),
      )

  -- so the parents of a forest book are true, with the mark and without
  pub parents_true : TrueParents b
  parents_true = go b.header.drawn refl
    where
      go : (d : Bool) → b.header.drawn ≡ d → TrueParents b
      go true e = drawn_true e
      go false e = F.table_true e

  -- the parents read the parent words
  pub parents_read : Reads (parents_of b) (snapshots b) parent_word
  parents_read = record { at = at; from = from }
    where
      from : (i p : ℕ) → lookup i (parents_of b) ≡ Some p → (k : Bkey) × (k ∈ snapshots b) × (k.offset ≡ i) × (parent_word k ≡ p)
      from i p h = (parents_true i p).0 (lookup_mem i (parents_of b) p h)

      at : (k : Bkey) → k ∈ snapshots b → lookup k.offset (parents_of b) ≡ Some (parent_word k)
      at k m =
          let r = mem_lookup k.offset (parent_word k) (parents_of b) ((parents_true k.offset (parent_word k)).1 (k, m, refl, refl)) in
          let u = from k.offset r.0 r.1 in
          r.1 ∙ ap Some (sym u.3 ∙ ap parent_word (snapshot_same u.0 k u.1 m u.2))

  pub trees_of_read : Reads (tree_of_map b) (snapshots b) tree_word
  unfolding tree_of_map map_of
  trees_of_read =
      rw (all_snapshots 24 (omega arith))
      (made_reads tree_word (snapshots b) (λ k m. (F.snapshots_formed k m).fits) F.snapshots_distinct)

  pub trees_read : Reads (tree_map b) (records b) record_words
  unfolding tree_map map_of
  trees_read =
      rw all_records (made_reads record_words (records b) (λ k m. (F.records_formed k m).fits) F.records_distinct)

  pub trees_mem : (e : ℕ × (ℕ × ℕ)) → e ∈ tree_map b → (k : Bkey) × (k ∈ records b) × (e ≡ (k.offset, record_words k))
  unfolding tree_map map_of
  trees_mem =
      rw all_records (made_mem record_words (records b) (λ k m. (F.records_formed k m).fits) F.records_distinct)
