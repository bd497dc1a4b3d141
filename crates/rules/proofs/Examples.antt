-- Forest books of two snapshots and a tree record: one that is sound, and books that differ from it in one word, each with the drawn mark and without.
use Prim.Native.Nat.{ℕ}
use mathlib.Core.Bool.{Bool, true, false, true≢false, cond}
use mathlib.Core.Path.{◌≡◌, refl, ap, sym, subst}
use mathlib.Core.List.Memᴰ
use mathlib.Core.List.{List, [], ◌∷◌, map}
use lib.ListN.{get_or}
use native.Mathlib.Omega.{arith}
use Rattle.bits.specs.Bits.{le_at}
use Rattle.findings.specs.Findings.{Finding, finding, when, only, each, keep}
use Rattle.pairs.specs.Pairs.{has, sort}
use Rattle.book.specs.Maps.{lookup, insert, insert_all, collect}
use Rattle.book.specs.Book.{Bkey, Book, is}
use Rattle.book.specs.KeyMaps.{map_of, drawn_from, parents_of}
use Rattle.book.specs.Words.{holds, parent_word, id_of}
use Rattle.fields.specs.CheckKeyDevice.{elsewhere, check_key_device}
use Rattle.fields.specs.CheckKeyFields.{has_row, size_zero, snapshot_zero, minimum_value, check_snapshot_pad, bad_id, check_position, check_key_fields}
use Rattle.types.specs.CheckKeyType.{key_types_anywhere, key_types_allowed, outside, foreign_type, check_key_type}
use Rattle.states.specs.StateDistance.{bits_apart, nearer, state_distance, snap_states}
use Rattle.states.specs.CheckStateWords.{state_required, snap_state_word, snapshot_state, check_state_words}
use Rattle.subvolumes.specs.SubvolumeStates.{has_subvol_state, unavailable, subvolume_states}
use Rattle.claims.specs.SnapshotClaims.{claims, claimed, counts, claim_findings, snapshot_claims}
use Rattle.deletions.specs.SnapshotStates.{has_snap_state, snapshot_states}
use Rattle.parents.specs.Roots.{one_more, root_via, root_within, root_of, followed_via, followed, above}
use Rattle.snapshots.specs.SnapshotSubvolFlags.{flagged, flag_is_wrong, flag_findings, snapshot_subvol_flags}
use Rattle.children.specs.SubvolumeChildren.{has_fs_parent, fs_parents, subvolume_children}
use Rattle.links.specs.SnapshotLinks.{tree_map, tree_of_map, is_the, is_other, master_findings, tree_findings, names_root, wrong_depth, bad_child, bad_skip, root_findings, backref_findings, child_findings, skip_findings, link_findings, snapshot_links}
use Rattle.gens.specs.BucketGensAgainstAlloc.{is_gens, bucket_gens_against_alloc}
use Rattle.buckets.specs.FreeSpace.{held_runs, gaps, free_space}
use Rattle.forest.specs.Lists.{◌∈◌}
use Rattle.forest.specs.Forest.{keys_of, snapshots, WellFormed, TrueParents, ForestBook, Sound, Absent}
use Rattle.keys.specs.KeyFindings.{key_rules, key_findings}
use Rattle.rules.specs.Rules.{findings_of}
use Rattle.rules.proofs.Demand3.{demand_3}

-- a 32-bit word below 256, in bytes, before the rest
abbrev word : ℕ → List ℕ → List ℕ
word n rest = n ∷ 0 ∷ 0 ∷ 0 ∷ rest

abbrev key : ℕ → ℕ → ℕ → List ℕ → Bkey
key btree key_type offset value = record { btree = btree; key_type = key_type; size = 0; inode = 0; offset = offset; snapshot = 0; value = value }

-- a snapshot by its id, parent, first child, tree, depth and first skip word
abbrev snapshot : ℕ → ℕ → ℕ → ℕ → ℕ → ℕ → Bkey
snapshot id parent child tree depth skip =
    key 9 22 id (word 0 (word parent (word child (word 0 (word 0 (word tree (word depth (word skip (word 0 (word 0 []))))))))))

-- snapshot 1 with a parent and a child; snapshot 2, of parent 1, with a tree, a depth and a skip word
abbrev upper : ℕ → ℕ → Bkey
upper parent child = snapshot 1 parent child 1 0 1

abbrev lower : ℕ → ℕ → ℕ → Bkey
lower tree depth skip = snapshot 2 1 0 tree depth skip

-- a book of these, with tree record 1 of this root, and the parents as the snapshots have them, by the keys alone or in the table
unfoldable pub book : Bool → ℕ → ℕ → ℕ → ℕ → ℕ → ℕ → Book
book drawn parent child tree depth skip root = record {
  header = record {
    layout = 1;
    trees = true;
    drawn = drawn;
    spare = 0;
    version = 1062;
    first_bucket = 0;
    keys = 3;
    device = 0;
    buckets = 0;
    parents = cond drawn 0 2;
    subvolumes = 1;
    gens = 0;
    alloc = 0;
  };
  parents = cond drawn [] ((1, parent_word (upper parent child)) ∷ (2, 1) ∷ []);
  subvolumes = (5, 1) ∷ [];
  gens = [];
  alloc = [];
  keys = upper parent child ∷ key 15 31 1 (word 5 (word root [])) ∷ lower tree depth skip ∷ [];
}

-- THE PREMISES

-- what holds of both elements of a list
both : {A : Type 0} (P : A → Type 0) {x y : A} → P x → P y → (z : A) → z ∈ (x ∷ y ∷ []) → P z
both P p q z (Memᴰ.head e) = subst P (sym e) p
both P p q z (Memᴰ.tail m) = subst P (sym (Memᴰ.eq_of_singleton m)) q

-- a snapshot of the book has this id and this parent
Named : Book → ℕ × ℕ → Type 0
Named b e = (s : Bkey) × (s ∈ snapshots b) × (s.offset ≡ e.0) × (parent_word s ≡ e.1)

-- the parents table has a snapshot's id and parent
Listed : Book → Bkey → Type 0
Listed b s = (s.offset, parent_word s) ∈ parents_of b

-- the table, where there is one, is true
table : (drawn : Bool) (parent child tree depth skip root : ℕ) → drawn ≡ false → TrueParents (book drawn parent child tree depth skip root)
unfolding book keys_of keep parents_of le_at Named Listed
table true parent child tree depth skip root e = absurd (true≢false e)
table false parent child tree depth skip root e =
    let b = book false parent child tree depth skip root in
    λ id p. (
      both (Named b)
          (upper parent child, Memᴰ.head refl, refl, refl)
          (lower tree depth skip, Memᴰ.tail (Memᴰ.head refl), refl, refl)
          (id, p),
      (λ r.
          subst (λ (e : ℕ × ℕ). e ∈ parents_of b) (λ j. (r.2 j, r.3 j))
          (both (Listed b) (Memᴰ.head refl) (Memᴰ.tail (Memᴰ.head refl)) r.0 r.1)),
    )

-- each is a forest book, whatever the words
pub forest_book : (drawn : Bool) (parent child tree depth skip root : ℕ) → ForestBook (book drawn parent child tree depth skip root)
unfolding book keys_of keep
forest_book drawn parent child tree depth skip root =
    record {
      mark = refl;
      snapshots_formed = both (WellFormed 22 40)
          (record { typed = refl; long = omega arith; above_zero = omega arith; fits = omega arith })
          (record { typed = refl; long = omega arith; above_zero = omega arith; fits = omega arith });
      records_formed = λ t m.
          subst (WellFormed 31 8) (sym (Memᴰ.eq_of_singleton m))
          (record { typed = refl; long = omega arith; above_zero = omega arith; fits = omega arith });
      snapshots_distinct = ((λ m. absurd (omega (arith, Memᴰ.eq_of_singleton m))), ((λ m. Memᴰ.not-nil m), tt));
      records_distinct = ((λ m. Memᴰ.not-nil m), tt);
      table_true = table drawn parent child tree depth skip root;
    }

-- THE FINDINGS

-- a book and its findings
abbrev Row : Type 0
Row = Book × List Finding

-- the sound book; then another root, tree, depth, child and skip word; then snapshot 1 with itself, with 2 and with none as its parent
rows : Bool → List Row
rows drawn =
    (book drawn 0 2 1 1 1 1, []) ∷
    (book drawn 0 2 1 1 1 3, finding 39 1 3 ∷ finding 41 1 1 ∷ finding 41 2 1 ∷ []) ∷
    (book drawn 0 2 2 1 1 1, finding 41 2 2 ∷ []) ∷
    (book drawn 0 2 1 0 1 1, finding 42 2 0 ∷ []) ∷
    (book drawn 0 3 1 1 1 1, finding 44 1 3 ∷ []) ∷
    (book drawn 0 2 1 1 3 1, finding 45 2 1 ∷ []) ∷
    (book drawn 1 2 1 1 1 1, finding 41 1 1 ∷ finding 41 2 1 ∷ []) ∷
    (book drawn 2 2 1 1 1 1, finding 41 1 1 ∷ finding 41 2 1 ∷ []) ∷
    (book drawn 3 2 1 1 1 1, finding 41 1 1 ∷ finding 41 2 1 ∷ []) ∷
    []

examples : (drawn : Bool) → map (λ (r : Row). findings_of r.0) (rows drawn) ≡ map (λ (r : Row). r.1) (rows drawn)
unfolding rows book le_at when only each keep has sort lookup insert insert_all collect is drawn_from parents_of elsewhere check_key_device has_row size_zero snapshot_zero minimum_value check_snapshot_pad bad_id check_position check_key_fields key_types_anywhere key_types_allowed outside foreign_type check_key_type bits_apart nearer state_distance snap_states state_required snap_state_word snapshot_state check_state_words has_subvol_state unavailable subvolume_states claims claimed counts claim_findings snapshot_claims has_snap_state snapshot_states map_of one_more root_via root_within root_of followed_via followed above holds id_of flagged flag_is_wrong flag_findings snapshot_subvol_flags has_fs_parent fs_parents subvolume_children tree_map tree_of_map is_the is_other master_findings tree_findings names_root wrong_depth bad_child bad_skip root_findings backref_findings child_findings skip_findings link_findings snapshot_links is_gens bucket_gens_against_alloc held_runs gaps free_space key_rules key_findings findings_of
examples true = refl
examples false = refl

-- the first has no findings, and so it is sound
pub no_findings : (drawn : Bool) → findings_of (book drawn 0 2 1 1 1 1) ≡ []
unfolding rows
no_findings drawn = ap (λ (xs : List (List Finding)). get_or xs 0 []) (examples drawn)

absent : (drawn : Bool) → Absent (findings_of (book drawn 0 2 1 1 1 1))
absent drawn f m k = Memᴰ.not-nil (subst (λ (xs : List Finding). f ∈ xs) (no_findings drawn) m)

pub sound : (drawn : Bool) → Sound (book drawn 0 2 1 1 1 1)
sound drawn = (demand_3 (book drawn 0 2 1 1 1 1) (forest_book drawn 0 2 1 1 1 1)).exact.0 (absent drawn)

-- the fourth, of another depth word, has one finding of a forest kind, and so it is not sound
pub one_finding : (drawn : Bool) → findings_of (book drawn 0 2 1 0 1 1) ≡ finding 42 2 0 ∷ []
unfolding rows
one_finding drawn = ap (λ (xs : List (List Finding)). get_or xs 3 []) (examples drawn)

present : (drawn : Bool) → Absent (findings_of (book drawn 0 2 1 0 1 1)) → ⊥
present drawn a =
    a (finding 42 2 0) (subst (λ (xs : List Finding). finding 42 2 0 ∈ xs) (sym (one_finding drawn)) (Memᴰ.head refl)) (Memᴰ.tail (Memᴰ.tail (Memᴰ.head refl)))

pub unsound : (drawn : Bool) → Sound (book drawn 0 2 1 0 1 1) → ⊥
unsound drawn s = present drawn ((demand_3 (book drawn 0 2 1 0 1 1) (forest_book drawn 0 2 1 0 1 1)).exact.1 s)
