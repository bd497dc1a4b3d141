-- A rule finds nothing where a book has no key of its btrees.
use Prim.Native.Nat.{ℕ, suc}
use mathlib.Core.Path.{◌≡◌, refl, sym, ap, ◌∙◌}
use mathlib.Core.Bool.{Bool, true, false, ◌&&◌, ◌||◌, or-false, or_assoc}
use mathlib.Core.List.{List, [], ◌∷◌, map}
use lib.Dec.{eqb, leb}
use Rattle.findings.specs.Findings.{Finding, finding, when, only, each, keep}
use Rattle.pairs.proofs.Order.{both_false}
use Rattle.book.specs.Maps.{insert_all, collect, lookup}
use Rattle.book.specs.Book.{Bkey, Book, is}
use Rattle.walk.specs.Keys.{any_key}
use Rattle.book.specs.KeyMaps.{map_of}
use Rattle.subvolumes.specs.SubvolumeStates.{has_subvol_state, unavailable, subvolume_findings, subvolume_states}
use Rattle.claims.specs.SnapshotClaims.{claims, claimed, claim_findings, counts, snapshot_claims}
use Rattle.deletions.specs.SnapshotStates.{has_snap_state, snapshot_state_findings, snapshot_states}
use Rattle.book.specs.Words.{word, holds, subvolume_word, master_word, root_word, id_of}
use Rattle.snapshots.specs.SnapshotSubvolFlags.{flag_is_wrong, flag_findings, snapshot_subvol_flags}
use Rattle.children.specs.SubvolumeChildren.{has_fs_parent, fs_parents, wrong_entry, subvolume_children}
use Rattle.links.specs.SnapshotLinks.{tree_map, link_findings, snapshot_links}
use Rattle.gens.specs.BucketGensAgainstAlloc.{is_gens, gens_of_key, bucket_gens_against_alloc}
use Rattle.keys.specs.declared.Present.{Present}
use Rattle.keys.specs.Present.{has_btree, with_btree, present_with, present_in}
use Rattle.judge.specs.Steps.{subvolume_rules, snapshot_rules}

-- ---- what is found at keys of one btree

-- a test that only keys of btree b pass
pub record Of (b : ℕ) (test : Bkey → Bool) : Type 0 where
  pub fails : (k : Bkey) → eqb k.btree b ≡ false → test k ≡ false

keep_none : (b : ℕ) (test : Bkey → Bool) → Of b test → (ks : List Bkey) → has_btree b ks ≡ false → keep test ks ≡ []
unfolding has_btree any_key keep
keep_none b test o [] e = refl
keep_none b test o (k ∷ ks) e =
    rw (o.fails k (both_false _ (any_key (λ k. eqb k.btree b) ks) e).0) (keep_none b test o ks (both_false (eqb k.btree b) _ e).1)

each_none : (b : ℕ) (test : Bkey → Bool) (at : Bkey → List Finding) → Of b test → (i : ℕ) (ks : List Bkey) → has_btree b ks ≡ false
    → each (λ _ k. only (test k) (at k)) i ks ≡ []
unfolding has_btree any_key each only
each_none b test at o i [] e = refl
each_none b test at o i (k ∷ ks) e =
    rw (o.fails k (both_false _ (any_key (λ k. eqb k.btree b) ks) e).0) (each_none b test at o (suc i) ks (both_false (eqb k.btree b) _ e).1)

-- ---- the rules

of_unavailable : Of 8 unavailable
unfolding unavailable has_subvol_state is
of_unavailable = record { fails = λ k e. rw e }

of_claims : Of 8 claims
unfolding claims is
of_claims = record { fails = λ k e. rw e }

of_states : Of 9 (λ k. has_snap_state k && leb k.offset 4294967295)
unfolding has_snap_state is
of_states = record { fails = λ k e. rw e }

of_holds : (b t n : ℕ) → Of b (holds b t n)
unfolding holds is
of_holds b t n = record { fails = λ k e. rw e }

of_parents : Of 8 has_fs_parent
unfolding has_fs_parent holds is
of_parents = record { fails = λ k e. rw e }

of_is : (b t : ℕ) → Of b (is b t)
unfolding is
of_is b t = record { fails = λ k e. rw e }

of_gens : (device : ℕ) → Of 14 (is_gens device)
unfolding is_gens is
of_gens device = record { fails = λ k e. rw e }

-- no key claims a snapshot
claimed_none : (ks : List Bkey) → has_btree 8 ks ≡ false → claimed ks ≡ []
unfolding has_btree any_key claimed
claimed_none [] e = refl
claimed_none (k ∷ ks) e =
    rw (of_claims.fails k (both_false _ (any_key (λ k. eqb k.btree 8) ks) e).0) (claimed_none ks (both_false (eqb k.btree 8) _ e).1)

-- a map made from the keys of a btree is empty
map_none : {A : Type 0} (b : ℕ) (test : Bkey → Bool) (number : Bkey → ℕ) (word : Bkey → A) → Of b test → (ks : List Bkey) → has_btree b ks ≡ false → map_of test number word ks ≡ []
unfolding map_of collect insert_all map
map_none b test number word o ks e = rw (keep_none b test o ks e)

pub subvolumes_none : (b : Book) → has_btree 8 b.keys ≡ false → subvolume_rules b ≡ []
unfolding subvolume_rules subvolume_states snapshot_claims claim_findings counts each
subvolumes_none b e = rw (each_none 8 unavailable (subvolume_findings b) of_unavailable 0 b.keys e, claimed_none b.keys e)

pub snapshots_none : (b : Book) → has_btree 9 b.keys ≡ false → snapshot_rules b ≡ []
unfolding snapshot_rules snapshot_states snapshot_subvol_flags flag_findings
snapshots_none b e =
    rw (each_none 9 (λ k. has_snap_state k && leb k.offset 4294967295) (snapshot_state_findings b) of_states 0 b.keys e)
    (each_none 9 (holds 9 22 20) (λ k. when (flag_is_wrong k) (finding 36 k.offset (subvolume_word k))) (of_holds 9 22 20) 0 b.keys e)

pub children_none : (b : Book) → has_btree 8 b.keys ≡ false → has_btree 19 b.keys ≡ false → subvolume_children b ≡ []
unfolding subvolume_children fs_parents each
children_none b e f =
    rw (map_none 8 has_fs_parent (λ k. k.offset) (word 20) of_parents b.keys e)
    (each_none 19 (is 19 25) (λ k. wrong_entry k (lookup k.offset [])) (of_is 19 25) 0 b.keys f)

pub links_none : (b : Book) → has_btree 9 b.keys ≡ false → has_btree 15 b.keys ≡ false → snapshot_links b ≡ []
unfolding snapshot_links each tree_map only
links_none b e f =
    rw (trees, each_none 9 (holds 9 22 40) (link_findings b) (of_holds 9 22 40) 0 b.keys e) (only_none b.header.trees)
  where
    trees : tree_map b ≡ []
    trees = map_none 15 (holds 15 31 8) id_of (λ k. (master_word k, root_word k)) (of_holds 15 31 8) b.keys f

    only_none : (t : Bool) → only t [] ≡ []
    only_none true = refl
    only_none false = refl

pub gens_none : (b : Book) → has_btree 14 b.keys ≡ false → b.gens ≡ [] → bucket_gens_against_alloc b ≡ []
unfolding bucket_gens_against_alloc each
gens_none b e f =
    rw (f, each_none 14 (is_gens b.header.device) (gens_of_key []) (of_gens b.header.device) 0 b.keys e)

-- ---- the btrees of the keys

-- a part of what is present, where a key adds its btree b to it
with_keys : (part : Present → Bool) (b : ℕ) → ((p : Present) (x : ℕ) → part (with_btree p x) ≡ part p || eqb x b) → (p : Present) (ks : List Bkey)
    → part (present_with p ks) ≡ part p || has_btree b ks
unfolding present_with has_btree any_key
with_keys part b one p [] = sym (or-false (part p))
with_keys part b one p (k ∷ ks) =
    with_keys part b one (with_btree p k.btree) ks ∙ ap (λ (x : Bool). x || has_btree b ks) (one p k.btree) ∙ or_assoc (part p) (eqb k.btree b) (has_btree b ks)

-- a part that is not present, of the btrees of some keys
lacks : (part : Present → Bool) (b : ℕ) → ((p : Present) (x : ℕ) → part (with_btree p x) ≡ part p || eqb x b) → (none : Present) → {p : Present} (ks : List Bkey)
    → p ≡ present_with none ks → part p ≡ false → has_btree b ks ≡ false
lacks part b one none ks e f = (both_false (part none) (has_btree b ks) (sym (ap part e ∙ with_keys part b one none ks) ∙ f)).1

pub lacks_subvolumes : {p : Present} (ks : List Bkey) → p ≡ present_in ks → p.subvolumes ≡ false → has_btree 8 ks ≡ false
unfolding present_in with_btree
lacks_subvolumes ks e f = lacks (λ p. p.subvolumes) 8 (λ p x. refl) _ ks e f

pub lacks_snapshots : {p : Present} (ks : List Bkey) → p ≡ present_in ks → p.snapshots ≡ false → has_btree 9 ks ≡ false
unfolding present_in with_btree
lacks_snapshots ks e f = lacks (λ p. p.snapshots) 9 (λ p x. refl) _ ks e f

pub lacks_gens : {p : Present} (ks : List Bkey) → p ≡ present_in ks → p.gens ≡ false → has_btree 14 ks ≡ false
unfolding present_in with_btree
lacks_gens ks e f = lacks (λ p. p.gens) 14 (λ p x. refl) _ ks e f

pub lacks_trees : {p : Present} (ks : List Bkey) → p ≡ present_in ks → p.trees ≡ false → has_btree 15 ks ≡ false
unfolding present_in with_btree
lacks_trees ks e f = lacks (λ p. p.trees) 15 (λ p x. refl) _ ks e f

pub lacks_children : {p : Present} (ks : List Bkey) → p ≡ present_in ks → p.children ≡ false → has_btree 19 ks ≡ false
unfolding present_in with_btree
lacks_children ks e f = lacks (λ p. p.children) 19 (λ p x. refl) _ ks e f
