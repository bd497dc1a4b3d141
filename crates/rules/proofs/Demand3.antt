-- Demand 3 on the list of all rules: of their findings those of `snapshot_links` alone can be of a forest kind.
use Rattle.std.specs.Prelude.{None}
use Prim.Native.Nat.{ℕ}
use mathlib.Core.Bool.{Bool, true, false, true≢false, not, ◌&&◌, ◌||◌}
use mathlib.Core.Logic.{◌↔◌}
use mathlib.Core.List.Memᴰ
use mathlib.Core.List.{List, [], ◌∷◌, ◌++◌}
use mathlib.Core.Path.{◌≡◌, refl, ap, sym, ◌∙◌}
use lib.Dec.{eqb}
use borrow.Author.Tests.{eqb-true}
use Rattle.findings.specs.Findings.{Finding, finding, each}
use Rattle.pairs.specs.Pairs.{has}
use Rattle.book.specs.Book.{Bkey, Book}
use Rattle.book.specs.KeyMaps.{parents_of}
use Rattle.parents.specs.Roots.{root_of}
use Rattle.book.specs.Words.{tree_word}
use Rattle.subvolumes.specs.SubvolumeStates.{subvolume_states}
use Rattle.claims.specs.SnapshotClaims.{snapshot_claims}
use Rattle.deletions.specs.SnapshotStates.{snapshot_states}
use Rattle.snapshots.specs.SnapshotSubvolFlags.{snapshot_subvol_flags}
use Rattle.children.specs.SubvolumeChildren.{subvolume_children}
use Rattle.links.specs.SnapshotLinks.{snapshot_links}
use Rattle.gens.specs.BucketGensAgainstAlloc.{bucket_gens_against_alloc}
use Rattle.buckets.specs.FreeSpace.{free_space}
use Rattle.forest.specs.Lists.{◌∈◌}
use Rattle.forest.specs.Forest.{snapshots, ForestBook, forest_kinds, Absent, Demand3}
use Rattle.forest.proofs.Absent.{absent_append, absent_kinds}
use Rattle.forest.proofs.Rules.{rootless}
use Rattle.forest.proofs.Theorem.{forest}
use Rattle.keys.specs.KeyFindings.{key_findings}
use Rattle.rules.specs.Rules.{findings_of}
use Rattle.rules.specs.Kinds.{Within, apart}
use Rattle.rules.proofs.RuleKinds.{key_kinds_lem, subvolume_kinds, claim_kinds, state_kinds, flag_kinds, child_kinds, gen_kinds, run_kinds}

-- a kind of a list that is apart from another is not in that
apart_has : (x : ℕ) (ks ls : List ℕ) → apart ks ls ≡ true → has x ks ≡ true → has x ls ≡ false
unfolding apart has
apart_has x [] ls a h = absurd (true≢false (sym h))
apart_has x (k ∷ ks) ls a h = go (eqb x k) (has k ls) refl refl a h (λ a h. apart_has x ks ls a h)
  where
    go : (e l : Bool) → eqb x k ≡ e → has k ls ≡ l → not l && apart ks ls ≡ true → e || has x ks ≡ true
        → (apart ks ls ≡ true → has x ks ≡ true → has x ls ≡ false) → has x ls ≡ false
    go e true q w a h ih = absurd (true≢false (sym a))
    go true false q w a h ih = ap (λ (y : ℕ). has y ls) (eqb-true x k q) ∙ w
    go false false q w a h ih = ih a h

-- findings of other kinds are no matter
other_kinds : (ks : List ℕ) (fs : List Finding) → apart ks forest_kinds ≡ true → Within ks fs → Absent fs
other_kinds ks fs a w = absent_kinds fs (λ f m. apart_has f.kind ks forest_kinds a (w.kind f m))

before : (xs ys zs : List Finding) → Absent xs → Absent ys ↔ Absent zs → Absent (xs ++ ys) ↔ Absent zs
before xs ys zs h e = ((λ a. e.0 ((absent_append xs ys).0 a).1), (λ a. (absent_append xs ys).1 (h, e.1 a)))

after : (xs ys : List Finding) → Absent ys → Absent (xs ++ ys) ↔ Absent xs
after xs ys h = ((λ a. ((absent_append xs ys).0 a).0), (λ a. (absent_append xs ys).1 (a, h)))

-- a forest kind is among all findings exactly if `snapshot_links` gives it
links_alone : (b : Book) → Absent (findings_of b) ↔ Absent (snapshot_links b)
unfolding findings_of apart has
links_alone b =
    before (each (key_findings b) 0 b.keys) _ _ (other_kinds _ _ refl (key_kinds_lem b))
    (before (subvolume_states b) _ _ (other_kinds _ _ refl (subvolume_kinds b))
    (before (snapshot_claims b) _ _ (other_kinds _ _ refl (claim_kinds b))
    (before (snapshot_states b) _ _ (other_kinds _ _ refl (state_kinds b))
    (before (snapshot_subvol_flags b) _ _ (other_kinds _ _ refl (flag_kinds b))
    (before (subvolume_children b) _ _ (other_kinds _ _ refl (child_kinds b))
    (after (snapshot_links b) (bucket_gens_against_alloc b ++ free_space b)
    ((absent_append (bucket_gens_against_alloc b) (free_space b)).1 (other_kinds _ _ refl (gen_kinds b), other_kinds _ _ refl (run_kinds b)))))))))

-- DEMAND 3, on the list
pub demand_3 : (b : Book) → ForestBook b → Demand3 b (findings_of b)
demand_3 b F = forest b F (findings_of b) (links_alone b)

-- "In a forest book a snapshot without a root always gives kind 41 or 42, whatever its other words hold": it gives 41
pub rootless_found : (b : Book) → ForestBook b → (s : Bkey) → s ∈ snapshots b → root_of (parents_of b) s.offset ≡ None → finding 41 s.offset (tree_word s) ∈ findings_of b
unfolding findings_of
rootless_found b F s m e =
    Memᴰ.append_right (each (key_findings b) 0 b.keys)
    (Memᴰ.append_right (subvolume_states b)
    (Memᴰ.append_right (snapshot_claims b)
    (Memᴰ.append_right (snapshot_states b)
    (Memᴰ.append_right (snapshot_subvol_flags b)
    (Memᴰ.append_right (subvolume_children b) (Memᴰ.append_left (bucket_gens_against_alloc b ++ free_space b) (rootless b F s m e)))))))
