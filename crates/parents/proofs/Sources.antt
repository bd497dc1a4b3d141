-- What a source says of the parents.
use Rattle.std.specs.Prelude.{Option}
use Prim.Native.Nat.{ℕ, zero, suc, ◌+◌, ◌*◌, ◌≤◌}
use mathlib.Core.Path.{◌≡◌, refl, sym, ap, subst, ◌∙◌}
use mathlib.Core.List.{List}
use native.Mathlib.Omega.{arith}
use lib.ListN.{take}
use lib.Seq.{get_or-take}
use Rattle.pairs.specs.Pairs.{pairs_of, pair_at, Sorted}
use Rattle.pairs.proofs.Order.{sorted_by}
use Rattle.book.specs.Maps.{lookup}
use Rattle.book.specs.Book.{words_from, book_of}
use Rattle.book.specs.KeyMaps.{parents_of}
use Rattle.book.specs.Words.{holds, parent_word, id_of}
use Rattle.maps.specs.LastKeys.{last_key, word_at}
use Rattle.drawn.specs.Classes.{latest, SnapshotAt}
use Rattle.drawn.proofs.Drawn.{drawn_latest, latest_snapshot, drawn_last, last_snapshot}
use Rattle.parents.specs.declared.Source.{Source}
use Rattle.parents.specs.declared.Source.TheVariants.{Table, Pairs, Keys}
use Rattle.parents.specs.Sources.{reach_of, ByTable, ByPairs, ByKeys, Sourced}

-- ---- by the kind of the source
module _ (s w : List ℕ) {src : Source} (h : Sourced s w src) where
  pub by_table : {start count : ℕ} → src ≡ Table start count → ByTable s start count
  unfolding Sourced
  by_table e = subst (Sourced s w) e h

  pub by_pairs : {n : ℕ} → src ≡ Pairs n → ByPairs s w n
  unfolding Sourced
  by_pairs e = subst (Sourced s w) e h

  pub by_keys : {start count : ℕ} → src ≡ Keys start count → ByKeys s start count
  unfolding Sourced
  by_keys e = subst (Sourced s w) e h

-- how far a place may lie in a table
pub table_reach : {src : Source} (start count : ℕ) → src ≡ Table start count → reach_of src ≡ count
unfolding reach_of
table_reach start count e = ap reach_of e

-- and how far among pairs
pub pairs_reach : {src : Source} (n : ℕ) → src ≡ Pairs n → reach_of src ≡ n
unfolding reach_of
pairs_reach n e = ap reach_of e

-- ---- what is found
module _ {s : List ℕ} (id : ℕ) {r : Option ℕ} where
  pub table_found : {start count : ℕ} → ByTable s start count → r ≡ (lookup id (words_from s count start)) → r ≡ (lookup id (parents_of (book_of s)))
  table_found b e = e ∙ ap (λ (t : List (ℕ × ℕ)). (lookup id t)) (sym b.table)

  pub pairs_found : {w : List ℕ} {n : ℕ} {m : Option ℕ} → ByPairs s w n → m ≡ latest 1 id (pairs_of w n) → r ≡ (word_at parent_word s m) → r ≡ (lookup id (parents_of (book_of s)))
  pairs_found b f e =
      e ∙ ap (λ (m : Option ℕ). (word_at parent_word s m)) f
      ∙ ap (λ (o : Option ℕ). o) (sym (ap (λ (t : List (ℕ × ℕ)). lookup id t) b.drawn ∙ drawn_latest b.all id))

  pub keys_found : {start count : ℕ} {m : Option ℕ} → ByKeys s start count → m ≡ last_key (holds 9 22 8) id_of s id count start → r ≡ (word_at parent_word s m) → r ≡ (lookup id (parents_of (book_of s)))
  keys_found {start} {count} b f e =
      e ∙ ap (λ (m : Option ℕ). (word_at parent_word s m)) f
      ∙ ap (λ (o : Option ℕ). o) (sym (ap (λ (t : List (ℕ × ℕ)). lookup id t) b.drawn ∙ drawn_last s count start id b.small b.fit))

-- the words of the pairs hold the same pairs
pub pairs_taken : (w : List ℕ) (m n : ℕ) → 2 * n ≤ m → pairs_of (take m w) n ≡ pairs_of w n
unfolding pairs_of pair_at
pairs_taken w m zero h = refl
pairs_taken w m (suc n) h = rw (pairs_taken w m n (omega arith), get_or-take m w (2 * n) 0 (omega arith), get_or-take m w (2 * n + 1) 0 (omega arith))

pub pairs_sorted : {s w : List ℕ} {n : ℕ} → ByPairs s w n → Sorted (pairs_of w n)
pairs_sorted b = sorted_by _ _ b.all.all

pub pairs_snapshot : {s w : List ℕ} {n : ℕ} → ByPairs s w n → (id : ℕ) {m : Option ℕ} → m ≡ latest 1 id (pairs_of w n) → SnapshotAt s m
pairs_snapshot {s} b id e = subst (SnapshotAt s) (sym e) (latest_snapshot b.all id)

pub keys_snapshot : {s : List ℕ} {start count : ℕ} → ByKeys s start count → (id : ℕ) {m : Option ℕ} → m ≡ last_key (holds 9 22 8) id_of s id count start → SnapshotAt s m
keys_snapshot {s} {start} {count} b id e = subst (SnapshotAt s) (sym e) (last_snapshot s count start id b.small b.fit)
