-- In a forest book each rule reports no forest kind exactly if its part of `Sound` holds.
use Rattle.std.specs.Prelude.{None, Option, Some}
use Prim.Native.Nat.{ℕ}
use mathlib.Core.Bool.{Bool, true, false, not}
use mathlib.Core.Logic.{◌⊎◌, inl, inr, ◌↔◌}
use mathlib.Core.List.Memᴰ
use mathlib.Core.List.{List, ◌∷◌, ◌++◌}
use Rattle.std.proofs.lemmas.Option.{same_Some}
use mathlib.Core.Path.{◌≡◌, refl, ap, sym, subst, ◌∙◌}
use native.Mathlib.Omega.{arith}
use borrow.Author.Tests.{eq-eqb, not-false}
use Rattle.findings.specs.Findings.{Finding, finding, when, only, each}
use Rattle.findings.proofs.Walk.{each_keep}
use Rattle.pairs.specs.Pairs.{has}
use Rattle.book.specs.Maps.{lookup}
use Rattle.book.specs.Book.{Bkey, Book}
use Rattle.book.specs.KeyMaps.{parents_of}
use Rattle.parents.specs.Roots.{root_of, above}
use Rattle.book.specs.Words.{parent_word, child_words, subvolume_word, tree_word, depth_word, skip_words, root_word, holds}
use Rattle.links.specs.SnapshotLinks.{tree_map, tree_of_map, is_the, is_other, master_findings, tree_findings, names_root, wrong_depth, bad_child, bad_skip, root_findings, backref_findings, child_findings, skip_findings, link_findings, snapshot_links}
use Rattle.forest.specs.Lists.{◌∈◌}
use Rattle.forest.specs.Forest.{snapshots, ForestBook, Links, InChain, RootedRight, NamedBack, NamesChild, NamesChain, Sound, forest_kinds, Absent}
use Rattle.forest.proofs.Reading.{record_words, id_same, all_snapshots, parents_read, trees_of_read, trees_read, trees_mem}
use Rattle.forest.proofs.Lists.{mem_each}
use Rattle.forest.proofs.Maps.{lookup_mem}
use Rattle.forest.proofs.Roots.{links_up, above_up}
use Rattle.forest.proofs.Chains.{root_found, found_root, up_ancestor, ancestor_up}
use Rattle.forest.proofs.Absent.{has_true, true_has, absent_append, absent_each, absent_when, absent_other, is_some, no_root, names_root_lem, depth_right, zero_or, none_bad}

-- the forest kinds, by name: the test finds each, wherever it stands
in39 : 39 ∈ forest_kinds
unfolding has
in39 = true_has 39 forest_kinds refl

in41 : 41 ∈ forest_kinds
unfolding has
in41 = true_has 41 forest_kinds refl

in42 : 42 ∈ forest_kinds
unfolding has
in42 = true_has 42 forest_kinds refl

in44 : 44 ∈ forest_kinds
unfolding has
in44 = true_has 44 forest_kinds refl

in45 : 45 ∈ forest_kinds
unfolding has
in45 = true_has 45 forest_kinds refl

-- kinds 31 and 40 are no forest kinds
master_absent : (m : List (ℕ × ℕ)) (id w : ℕ) (o : Option ℕ) → Absent (master_findings m id w o)
unfolding master_findings has when
master_absent m id w None = absent_other true 31 id w refl
master_absent m id w (Some x) = absent_other (is_other id (lookup x m)) 40 id w refl

-- the tests of a snapshot key, all passed
record Passed (b : Book) (s : Bkey) (id : ℕ) (root : Option (ℕ × ℕ)) (ids : List ℕ) : Type 0 where
  tree : names_root (lookup (tree_word s) (tree_map b)) root ≡ true
  depth : wrong_depth (depth_word s) root ≡ false
  children : (w : ℕ) → w ∈ child_words s → (w ≡ 0 → ⊥) → lookup w (parents_of b) ≡ Some id
  skips : (w : ℕ) → w ∈ skip_words s → (w ≡ 0 → ⊥) → w ∈ (id ∷ ids)

-- what a snapshot gives, by its id, its root and what stands above it
snapshot_findings : Book → Bkey → ℕ → Option (ℕ × ℕ) → List ℕ → List Finding
snapshot_findings b s id root ids =
    root_findings s id (lookup (tree_word s) (tree_map b)) root
    ++ (backref_findings s id (lookup (subvolume_word s) b.subvolumes) ++ (child_findings s id (parents_of b) ++ skip_findings s id ids))

-- each of its four parts
module _ (b : Book) (s : Bkey) (id : ℕ) where
  root_part : (root : Option (ℕ × ℕ))
      → Absent (root_findings s id (lookup (tree_word s) (tree_map b)) root) ↔ ((names_root (lookup (tree_word s) (tree_map b)) root ≡ true) × (wrong_depth (depth_word s) root ≡ false))
  unfolding root_findings
  root_part root = (
    (λ h. let a = (absent_append _ _).0 h in (not-false _ ((absent_when _ 41 _ _ in41).0 a.0), (absent_when _ 42 _ _ in42).0 a.1)),
    (λ p. (absent_append _ _).1 ((absent_when _ 41 _ _ in41).1 (ap not p.0), (absent_when _ 42 _ _ in42).1 p.1)),
  )

  backref_part : (snap : Option ℕ) → Absent (backref_findings s id snap)
  unfolding backref_findings has
  backref_part snap = absent_other _ 43 _ _ refl

  child_part : Absent (child_findings s id (parents_of b)) ↔ ((w : ℕ) → w ∈ child_words s → (w ≡ 0 → ⊥) → lookup w (parents_of b) ≡ Some id)
  unfolding child_findings bad_child
  child_part = (
    (λ h w m n. (is_some id (lookup w (parents_of b))).0 ((zero_or w (is_the id (lookup w (parents_of b)))).0 ((absent_when _ 44 id w in44).0 ((absent_each found 0 (child_words s)).0 h w m)) n)),
    (λ p. (absent_each found 0 (child_words s)).1 (λ w m. (absent_when _ 44 id w in44).1 ((zero_or w (is_the id (lookup w (parents_of b)))).1 (λ n. (is_some id (lookup w (parents_of b))).1 (p w m n))))),
  )
    where
      found : ℕ → List Finding
      found child = when (bad_child (parents_of b) id child) (finding 44 id child)

  skip_part : (ids : List ℕ) → Absent (skip_findings s id ids) ↔ ((w : ℕ) → w ∈ skip_words s → (w ≡ 0 → ⊥) → w ∈ (id ∷ ids))
  unfolding skip_findings bad_skip
  skip_part ids = (
    (λ h w m n. true_has w (id ∷ ids) ((zero_or w (has w (id ∷ ids))).0 ((none_bad (bad_skip id ids) (skip_words s)).0 ((absent_when _ 45 _ _ in45).0 h) w m) n)),
    (λ p. (absent_when _ 45 _ _ in45).1 ((none_bad (bad_skip id ids) (skip_words s)).1 (λ w m. (zero_or w (has w (id ∷ ids))).1 (λ n. has_true w (id ∷ ids) (p w m n))))),
  )

  passed : (root : Option (ℕ × ℕ)) (ids : List ℕ) → Absent (snapshot_findings b s id root ids) ↔ Passed b s id root ids
  unfolding snapshot_findings
  passed root ids = (there, back)
    where
      there : Absent (snapshot_findings b s id root ids) → Passed b s id root ids
      there h =
          let x = (absent_append (root_findings s id (lookup (tree_word s) (tree_map b)) root) _).0 h in
          let y = (absent_append (backref_findings s id (lookup (subvolume_word s) b.subvolumes)) _).0 x.1 in
          let z = (absent_append (child_findings s id (parents_of b)) _).0 y.1 in
          let r = (root_part root).0 x.0 in
          record { tree = r.0; depth = r.1; children = child_part.0 z.0; skips = (skip_part ids).0 z.1 }

      back : Passed b s id root ids → Absent (snapshot_findings b s id root ids)
      back p =
          (absent_append _ _).1 (
            (root_part root).1 (p.tree, p.depth),
            (absent_append _ _).1 (
              backref_part (lookup (subvolume_word s) b.subvolumes),
              (absent_append _ _).1 (child_part.1 p.children, (skip_part ids).1 p.skips),
            ),
          )

module _ (b : Book) (F : ForestBook b) where
  -- kind 39
  tree_rule : (t : Bkey) → Absent (tree_findings b (t.offset, record_words t)) ↔ NamedBack b t
  unfolding tree_findings
  tree_rule t = (there, back)
    where
      there : Absent (tree_findings b (t.offset, record_words t)) → NamedBack b t
      there h =
          (trees_of_read b F).from (root_word t) t.offset
          ((is_some _ _).0 (not-false _ ((absent_when _ 39 _ _ in39).0 ((absent_append _ _).0 h).0)))

      back : NamedBack b t → Absent (tree_findings b (t.offset, record_words t))
      back n =
          (absent_append _ _).1 (
            (absent_when _ 39 _ _ in39).1
                (ap not ((is_some _ _).1
                (ap (λ (i : ℕ). lookup i (tree_of_map b)) (sym n.2) ∙ (trees_of_read b F).at n.0 n.1 ∙ ap Some n.3))),
            master_absent _ _ _ _,
          )

  -- the findings of a key, by its whole offset
  key_findings : (s : Bkey) → s ∈ snapshots b
      → link_findings b s ≡ snapshot_findings b s s.offset (root_of (parents_of b) s.offset) (above (parents_of b) s.offset)
  unfolding link_findings snapshot_findings
  key_findings s m =
      ap (λ (id : ℕ). snapshot_findings b s id (root_of (parents_of b) id) (above (parents_of b) id)) (id_same s (F.snapshots_formed s m).fits)

  -- what `Sound` says of one snapshot
  record SoundAt (s : Bkey) : Type 0 where
    roots : RootedRight b s
    children : (word : ℕ) → word ∈ child_words s → (word ≡ 0 → ⊥) → NamesChild b s word
    skips : (word : ℕ) → word ∈ skip_words s → (word ≡ 0 → ⊥) → NamesChain b s word

  -- the tests of a snapshot, with its root or without one
  PassedAt : Bkey → Option (ℕ × ℕ) → Type 0
  PassedAt s root = Passed b s s.offset root (above (parents_of b) s.offset)

  -- a skip word among the ids above a rooted snapshot names a snapshot of its chain
  skip_chain : (n : ℕ) (s r : Bkey) → s ∈ snapshots b → Links b n s r → (w : ℕ) → (w ≡ s.offset) ⊎ (w ∈ links_up (parents_of b) n s.offset) → NamesChain b s w
  skip_chain n s r m l w (inl e) = (s, inl refl, sym e)
  skip_chain n s r m l w (inr h) = let a = up_ancestor b F n s r m l w h in (a.0, inr a.1, a.2)

  chain_skip : (n : ℕ) (s r a : Bkey) → s ∈ snapshots b → Links b n s r → parent_word r ≡ 0 → InChain b s a → a.offset ∈ (s.offset ∷ links_up (parents_of b) n s.offset)
  chain_skip n s r a m l z (inl e) = Memᴰ.head (ap (λ (k : Bkey). k.offset) (sym e))
  chain_skip n s r a m l z (inr h) = Memᴰ.tail (ancestor_up b F n h.0 s r a m l z h.1)

  passed_sound : (s : Bkey) → s ∈ snapshots b → (y : ℕ × ℕ) → root_of (parents_of b) s.offset ≡ Some y → PassedAt s (Some y) → SoundAt s
  unfolding PassedAt
  passed_sound s m y e p =
      let n = names_root_lem (lookup (tree_word s) (tree_map b)) (Some y) p.tree in
      let f = found_root b F s m y.0 y.1 e in
      let t = (trees_read b F).from (tree_word s) n.0 n.2 in
      let q : n.1 ≡ y = same_Some n.1 y (sym n.3) in
      let w : root_word t.0 ≡ f.0.offset =
      ap (λ (x : ℕ × ℕ). x.1) t.3 ∙ n.4 ∙ ap (λ (x : ℕ × ℕ). x.0) q ∙ sym f.3 in
      let ids = above_up (parents_of b) s.offset y e in
      record {
        roots = (
          f.0,
          y.1,
          record { reaches = f.1; parentless = f.2; within = f.4 },
          (depth_right y (depth_word s)).0 p.depth,
          (t.0, t.1, t.2, w),
        );
        children = λ w i z. (parents_read b F).from w s.offset (p.children w i z);
        skips = λ w i z. skip_chain y.1 s f.0 m f.1 w (Memᴰ.cases_cons (subst (λ (l : List ℕ). w ∈ (s.offset ∷ l)) ids (p.skips w i z)));
      }

  sound_passed : (s : Bkey) → s ∈ snapshots b → SoundAt s → (y : ℕ × ℕ) × (root_of (parents_of b) s.offset ≡ Some y) × PassedAt s (Some y)
  unfolding PassedAt names_root
  sound_passed s m p =
      let r = p.roots.0 in
      let n = p.roots.1 in
      let R = p.roots.2 in
      let t = p.roots.4 in
      let root = root_found b F n s r m R.reaches R.parentless R.within in
      let ids = above_up (parents_of b) s.offset (r.offset, n) root in
      let named : lookup (tree_word s) (tree_map b) ≡ Some (record_words t.0) =
      ap (λ (i : ℕ). lookup i (tree_map b)) (sym t.2) ∙ (trees_read b F).at t.0 t.1 in (
        (r.offset, n),
        root,
        record {
          tree = rw named (eq-eqb (root_word t.0) r.offset t.3);
          depth = (depth_right (r.offset, n) (depth_word s)).1 p.roots.3;
          children = λ w i z.
              let c = p.children w i z in
              ap (λ (j : ℕ). lookup j (parents_of b)) (sym c.2) ∙ (parents_read b F).at c.0 c.1 ∙ ap Some c.3;
          skips = λ w i z.
              let a = p.skips w i z in
              subst (λ (l : List ℕ). w ∈ (s.offset ∷ l)) (sym ids)
              (subst (λ (j : ℕ). j ∈ (s.offset ∷ links_up (parents_of b) n s.offset)) a.2
              (chain_skip n s r a.0 m R.reaches R.parentless a.1));
        },
      )

  -- kinds 41, 42, 44 and 45
  snapshot_rule : (s : Bkey) → s ∈ snapshots b → Absent (link_findings b s) ↔ SoundAt s
  unfolding PassedAt
  snapshot_rule s m = (there, back)
    where
      there : Absent (link_findings b s) → SoundAt s
      there h =
          let p : PassedAt s (root_of (parents_of b) s.offset) = (passed b s _ _ _).0 (subst Absent (key_findings s m) h) in
          let n = names_root_lem _ _ p.tree in
          passed_sound s m n.1 n.3 (subst (PassedAt s) n.3 p)

      back : SoundAt s → Absent (link_findings b s)
      back h =
          let q = sound_passed s m h in
          subst Absent (sym (key_findings s m)) ((passed b s _ _ _).1 (subst (PassedAt s) (sym q.1) q.2))

  -- THE WHOLE LIST

  links_are : snapshot_links b ≡ each (λ _ e. tree_findings b e) 0 (tree_map b) ++ each (λ _ k. link_findings b k) 0 (snapshots b)
  unfolding snapshot_links only
  links_are =
      ap (λ (c : Bool). only c (trees ++ each (λ _ k. only (holds 9 22 40 k) (link_findings b k)) 0 b.keys)) F.mark
      ∙ ap (λ (l : List Finding). trees ++ l) (sym (each_keep (link_findings b) (holds 9 22 40) b.keys) ∙ ap (λ (ks : List Bkey). each (λ _ k. link_findings b k) 0 ks) (all_snapshots b F 40 (omega arith)))
    where
      trees : List Finding
      trees = each (λ _ e. tree_findings b e) 0 (tree_map b)

  -- "In a forest book a snapshot without a root always gives kind 41 or 42, whatever its other words hold": it gives 41
  pub rootless : (s : Bkey) → s ∈ snapshots b → root_of (parents_of b) s.offset ≡ None → finding 41 s.offset (tree_word s) ∈ snapshot_links b
  unfolding root_findings when snapshot_findings
  rootless s m e =
      subst (λ (l : List Finding). finding 41 s.offset (tree_word s) ∈ l) (sym links_are)
      (Memᴰ.append_right (each (λ _ t. tree_findings b t) 0 (tree_map b))
      (mem_each (link_findings b) 0 (snapshots b) s _ m
      (subst (λ (l : List Finding). finding 41 s.offset (tree_word s) ∈ l) (sym (key_findings s m))
      (rw (e, no_root (lookup (tree_word s) (tree_map b))) (Memᴰ.head refl)))))

  pub links_sound : Absent (snapshot_links b) ↔ Sound b
  links_sound = (there, back)
    where
      trees : List Finding
      trees = each (λ _ e. tree_findings b e) 0 (tree_map b)

      there : Absent (snapshot_links b) → Sound b
      there h =
          let a = (absent_append trees (each (λ _ k. link_findings b k) 0 (snapshots b))).0 (subst Absent links_are h) in
          let at : (s : Bkey) → s ∈ snapshots b → SoundAt s = λ s m. (snapshot_rule s m).0 ((absent_each (link_findings b) 0 (snapshots b)).0 a.1 s m) in
          record {
            roots = λ s m. (at s m).roots;
            back = λ t m.
                (tree_rule t).0
                ((absent_each (tree_findings b) 0 (tree_map b)).0 a.0 (t.offset, record_words t) (lookup_mem _ _ _ ((trees_read b F).at t m)));
            children = λ s m. (at s m).children;
            skips = λ s m. (at s m).skips;
          }

      back : Sound b → Absent (snapshot_links b)
      back S =
          subst Absent (sym links_are)
          ((absent_append trees (each (λ _ k. link_findings b k) 0 (snapshots b))).1 (
            (absent_each (tree_findings b) 0 (tree_map b)).1
                (λ e m.
                let k = trees_mem b F e m in
                subst (λ (x : ℕ × (ℕ × ℕ)). Absent (tree_findings b x)) (sym k.2) ((tree_rule k.0).1 (S.back k.0 k.1))),
            (absent_each (link_findings b) 0 (snapshots b)).1
                (λ s m. (snapshot_rule s m).1 (record { roots = S.roots s m; children = S.children s m; skips = S.skips s m })),
          ))
