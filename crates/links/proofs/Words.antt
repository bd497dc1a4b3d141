-- What the code computes of a snapshot's words is what the rule asks of them.
use Rattle.std.specs.Prelude.{None, Option, Some}
use Prim.Native.Nat.{ℕ, ◌+◌}
use mathlib.Core.Path.{◌≡◌, refl, sym, ap, ◌∙◌}
use mathlib.Core.Bool.{Bool, true, false, cond, not, ◌&&◌, ◌||◌}
use mathlib.Core.List.{List, [], ◌∷◌, ◌++◌, append-nil}
use native.Mathlib.Omega.{arith}
use lib.ListN.{length, take}
use lib.Dec.{eqb}
use borrow.Author.Tests.{eq-eqb, ne_eqb}
use Rattle.bits.specs.Bits.{le_at}
use Rattle.findings.specs.Findings.{Finding, finding, when, only, each, keep}
use Rattle.pairs.specs.Pairs.{has}
use Rattle.pairs.proofs.Order.{same_or_not}
use Rattle.book.specs.declared.Header.{Header}
use Rattle.book.specs.Maps.{lookup}
use Rattle.book.specs.Book.{Bkey, Book}
use Rattle.book.specs.KeyMaps.{parents_of}
use Rattle.book.proofs.Maps.{word_is, word_absent}
use Rattle.parents.specs.Chains.{root_answer}
use Rattle.ancestors.specs.Lines.{Lined}
use Rattle.parents.specs.Roots.{above}
use Rattle.ancestors.specs.declared.Line.{Line}
use Rattle.ancestors.proofs.Laws.{among}
use Rattle.book.specs.Words.{holds, subvolume_word, tree_word, depth_word, skip_words, id_of}
use Rattle.links.specs.SnapshotLinks.{tree_map, tree_of_map, is_the, is_other, master_findings, tree_findings, names_root, wrong_depth, bad_child, bad_skip, root_findings, backref_findings, child_findings, skip_findings, link_findings, snapshot_links}
use Rattle.links.specs.Steps.{root_in, root_named, same_root}

-- a root says what it was made from
pub root_back : (o : Option (ℕ × ℕ)) → root_in (root_answer o) ≡ o
unfolding root_in root_answer
root_back None = refl
root_back (Some r) = refl

-- a child
pub child_none : (t : List (ℕ × ℕ)) (id child : ℕ) → child ≡ 0 → false ≡ bad_child t id child
unfolding bad_child
child_none t id child e = rw (eq-eqb child 0 e)

pub child_test : (t : List (ℕ × ℕ)) (id child : ℕ) {m : Option ℕ} {own : Bool} → (child ≡ 0 → ⊥) → m ≡ (lookup child t) → own ≡ is_the id m
    → not own ≡ bad_child t id child
unfolding bad_child
child_test t id child e m own = rw (own, m, ne_eqb child 0 e)

-- a skip word, by whether it is among the ids
pub skip_by : (id skip : ℕ) (ids : List ℕ) {above : Bool} {x : ℕ} → above ≡ has skip ids → x ≡ cond (not (eqb skip 0) && not (eqb skip id || above)) 1 0 → x ≡ cond (bad_skip id ids skip) 1 0
unfolding bad_skip has
skip_by id skip ids h e = rw (← h) e

pub skip_zero : (id skip : ℕ) (ids : List ℕ) → eqb skip 0 ≡ true → ◌≡◌ {A = ℕ} 0 (cond (bad_skip id ids skip) 1 0)
unfolding bad_skip
skip_zero id skip ids e = rw e

kept_length : (t : Bool) (x : ℕ) (xs : List ℕ) → length (cond t (x ∷ xs) xs) ≡ cond t 1 0 + length xs
kept_length true x xs = omega arith
kept_length false x xs = omega arith

-- the three of them
pub skip_count : (test : ℕ → Bool) (k : Bkey) {a b c x y z : ℕ} → a ≡ le_at k.value 28 4 → b ≡ le_at k.value 32 4 → c ≡ le_at k.value 36 4
    → x ≡ cond (test a) 1 0 → y ≡ cond (test b) 1 0 → z ≡ cond (test c) 1 0 → x + y + z ≡ length (keep test (skip_words k))
unfolding keep
skip_count test k {a} {b} {c} ea eb ec x y z =
    rw (← ea, ← eb, ← ec, kept_length (test a) a (keep test (b ∷ c ∷ [])), kept_length (test b) b (keep test (c ∷ [])), kept_length (test c) c []) (omega (arith, x, y, z))

-- ---- the findings

pub backref_is : (k : Bkey) (id : ℕ) (t : List (ℕ × ℕ)) {w : ℕ} {bad : Bool} → w ≡ subvolume_word k → bad ≡ not (eqb w 0) && is_other id (lookup w t)
    → when bad (finding 43 id w) ≡ backref_findings k id (lookup (subvolume_word k) t)
unfolding backref_findings
backref_is k id t e bad = rw (bad, e)

pub other_is : (id : ℕ) (o : Option ℕ) (w : ℕ) {m : Option ℕ} {other : Bool} → (w ≡ 0 → ⊥) → m ≡ o → other ≡ is_other id m
    → other ≡ not (eqb w 0) && is_other id o
other_is id o w e m other = rw (other, m, ne_eqb w 0 e)

pub children_are : (k : Bkey) (id : ℕ) (t : List (ℕ × ℕ)) {l r : ℕ} {a b : Bool} → l ≡ le_at k.value 8 4 → r ≡ le_at k.value 12 4 → a ≡ bad_child t id l → b ≡ bad_child t id r
    → when a (finding 44 id l) ++ when b (finding 44 id r) ≡ child_findings k id t
unfolding child_findings each
children_are k id t {r = r} l e a b = rw (← l, ← e, a, b, append-nil (when (bad_child t id r) (finding 44 id r)))

pub skips_shown : (k : Bkey) (id : ℕ) (ids : List ℕ) {bad : ℕ} → bad ≡ length (keep (bad_skip id ids) (skip_words k)) → when (not (eqb bad 0)) (finding 45 id bad) ≡ skip_findings k id ids
unfolding skip_findings
skips_shown k id ids e = rw e

names_same : (tree root : Option (ℕ × ℕ)) → same_root (root_named tree) root ≡ names_root tree root
unfolding same_root root_named names_root is_the
names_same None None = refl
names_same None (Some r) = refl
names_same (Some t) None = refl
names_same (Some t) (Some r) = refl

pub root_shown : (k : Bkey) (id : ℕ) (t : List (ℕ × (ℕ × ℕ))) (root : Option (ℕ × ℕ)) {w d : ℕ} {m : Option ℕ} {same wrong : Bool} → w ≡ tree_word k → d ≡ depth_word k
    → m ≡ (root_named (lookup w t)) → same ≡ same_root m root → wrong ≡ wrong_depth d root
    → when (not same) (finding 41 id w) ++ when wrong (finding 42 id d) ≡ root_findings k id (lookup (tree_word k) t) root
unfolding root_findings
root_shown k id t root {w} ew ed m same wrong = rw (same, m, names_same (lookup w t) root, wrong, ew, ed)

-- the array has the ids above a snapshot, each perhaps more than once
module _ (t : List (ℕ × ℕ)) (k : Bkey) {ids : List ℕ} {l : Line} (h : Lined t ids l) where
  skip_same : (skip : ℕ) → bad_skip l.id (take l.len ids) skip ≡ bad_skip l.id (above t l.id) skip
  unfolding bad_skip has
  skip_same skip = same_or_not skip l.id (λ s. rw (eq-eqb skip l.id s)) (λ d. rw (among t h d))

  skips_same : skip_findings k l.id (take l.len ids) ≡ skip_findings k l.id (above t l.id)
  unfolding skip_findings
  skips_same =
      ap (λ (test : ℕ → Bool). when (not (eqb (length (keep test (skip_words k))) 0)) (finding 45 l.id (length (keep test (skip_words k))))) (λ i skip. skip_same skip i)

pub links_shown : (b : Book) (t : List (ℕ × ℕ)) (k : Bkey) {ids : List ℕ} {l : Line} → parents_of b ≡ t → l.id ≡ id_of k → Lined t ids l
    → root_findings k l.id (lookup (tree_word k) (tree_map b)) (root_in l.root)
    ++ (backref_findings k l.id (lookup (subvolume_word k) b.subvolumes) ++ (child_findings k l.id (parents_of b) ++ skip_findings k l.id (take l.len ids)))
    ≡ link_findings b k
unfolding link_findings
links_shown b t k p i h = rw (skips_same t k h, h.root_is, root_back _, p, i)

-- ---- the trees

pub master_there : (tree_of : List (ℕ × ℕ)) (id subvolume : ℕ) (o : Option ℕ) {x m : Option ℕ} {snap : ℕ} {other : Bool} → x ≡ o → x ≡ Some snap
    → m ≡ (lookup snap tree_of) → other ≡ is_other id m → when other (finding 40 id subvolume) ≡ master_findings tree_of id subvolume o
unfolding master_findings
master_there tree_of id subvolume o {snap = snap} x is m other = rw (word_is o (sym x ∙ is), other, m)

pub master_absent : (tree_of : List (ℕ × ℕ)) (id subvolume : ℕ) (o : Option ℕ) {x : Option ℕ} → x ≡ o → x ≡ None
    → finding 31 id subvolume ∷ [] ≡ master_findings tree_of id subvolume o
unfolding master_findings
master_absent tree_of id subvolume o x is = rw (word_absent o (sym x ∙ is))

pub tree_shown : (b : Book) (e : ℕ × (ℕ × ℕ)) {id subvolume root : ℕ} {m : Option ℕ} {back : Bool} → id ≡ e.0 → subvolume ≡ e.1.0 → root ≡ e.1.1
    → m ≡ (lookup root (tree_of_map b)) → back ≡ is_the id m
    → when (not back) (finding 39 id root) ++ master_findings (tree_of_map b) id subvolume (lookup subvolume b.subvolumes) ≡ tree_findings b e
unfolding tree_findings
tree_shown b e {root = root} i v t m back = rw (back, m, i, v, t)

-- findings under a test
only_false : (fs : List Finding) {m : Bool} → m ≡ false → only m fs ≡ []
unfolding only
only_false fs e = rw e

only_true : (fs : List Finding) {m : Bool} → m ≡ true → fs ≡ only m fs
unfolding only
only_true fs e = rw e

-- ---- the mark

module _ (b : Book) {h : Header} (e : b.header ≡ h) where
  mark_is : {m : Bool} → h.trees ≡ m → b.header.trees ≡ m
  mark_is t = rw e t

  pub links_unmarked : h.trees ≡ false → snapshot_links b ≡ []
  unfolding snapshot_links
  links_unmarked t = only_false _ (mark_is t)

  pub links_marked : h.trees ≡ true
      → each (λ _ e. tree_findings b e) 0 (tree_map b) ++ each (λ _ k. only (holds 9 22 40 k) (link_findings b k)) 0 b.keys ≡ snapshot_links b
  unfolding snapshot_links
  links_marked t = only_true _ (mark_is t)
