-- Each rule gives only the kinds that the table `kinds_of` says: by one law for each way in which lists of findings are made.
use Rattle.std.specs.Prelude.{None, Option, Some}
use Prim.Native.Nat.{ℕ, suc}
use mathlib.Core.Bool.{Bool, true, false, cond}
use mathlib.Core.Path.{◌≡◌, sym, subst}
use mathlib.Core.Logic.{⊎_elim}
use mathlib.Core.List.Memᴰ
use mathlib.Core.List.{List, [], ◌∷◌, ◌++◌, append-nil}
use lib.Dec.{ltb}
use Rattle.findings.specs.Findings.{Finding, finding, when, only, each}
use Rattle.pairs.specs.Pairs.{has}
use Rattle.book.specs.Book.{Bkey, Book}
use Rattle.fields.specs.CheckKeyDevice.{check_key_device}
use Rattle.fields.specs.CheckKeyFields.{check_key_fields, check_accounting_key, check_inode_v3_word, check_snapshot_pad, check_alloc_v4_value, check_position}
use Rattle.types.specs.CheckKeyType.{check_key_type}
use Rattle.states.specs.CheckStateWords.{check_state_words, snapshot_state, subvolume_state, subvolume_word}
use Rattle.subvolumes.specs.SubvolumeStates.{subvolume_states, subvolume_findings}
use Rattle.claims.specs.SnapshotClaims.{snapshot_claims, claim_findings}
use Rattle.deletions.specs.SnapshotStates.{snapshot_states, snapshot_state_findings}
use Rattle.snapshots.specs.SnapshotSubvolFlags.{snapshot_subvol_flags, flag_findings}
use Rattle.children.specs.SubvolumeChildren.{subvolume_children, missing_entry, wrong_entry}
use Rattle.links.specs.SnapshotLinks.{snapshot_links, tree_findings, master_findings, link_findings, root_findings, backref_findings, child_findings, skip_findings}
use Rattle.gens.specs.BucketGensAgainstAlloc.{bucket_gens_against_alloc, gens_of_key, gen_at, uncovered}
use Rattle.buckets.specs.FreeSpace.{free_space, run_findings, set_findings, is_free, gap_findings}
use Rattle.forest.specs.Lists.{◌∈◌}
use Rattle.keys.specs.KeyFindings.{key_rules, key_findings}
use Rattle.rules.specs.Rules.{findings_of}
use Rattle.rules.specs.Kinds.{Within, Kinds, key_kinds, link_kinds, kinds_of, list_of}

module _ {ks : List ℕ} where
  within_nil : Within ks []
  within_nil = record { kind = λ f m. absurd (Memᴰ.not-nil m) }

  within_one : (kind s o : ℕ) → has kind ks ≡ true → Within ks (finding kind s o ∷ [])
  within_one kind s o e = record { kind = λ f m. subst (λ (g : Finding). has g.kind ks ≡ true) (sym (Memᴰ.eq_of_singleton m)) e }

  within_when : (b : Bool) (kind s o : ℕ) → has kind ks ≡ true → Within ks (when b (finding kind s o))
  unfolding when
  within_when true kind s o e = within_one kind s o e
  within_when false kind s o e = within_nil

  within_only : (b : Bool) (fs : List Finding) → Within ks fs → Within ks (only b fs)
  unfolding only
  within_only true fs h = h
  within_only false fs h = within_nil

  pub within_append : (xs ys : List Finding) → Within ks xs → Within ks ys → Within ks (xs ++ ys)
  within_append xs ys h g = record { kind = λ f m. ⊎_elim (h.kind f) (g.kind f) (Memᴰ.append_cases xs m) }

  within_each : {A : Type 0} (at : ℕ → A → List Finding) (i : ℕ) (xs : List A) → ((i : ℕ) (x : A) → Within ks (at i x)) → Within ks (each at i xs)
  unfolding each
  within_each at i [] h = within_nil
  within_each at i (x ∷ xs) h = within_append (at i x) (each at (suc i) xs) (h i x) (within_each at (suc i) xs h)

  within_cond : (b : Bool) (xs ys : List Finding) → Within ks xs → Within ks ys → Within ks (cond b xs ys)
  within_cond true xs ys h g = h
  within_cond false xs ys h g = g

ruleset within = (within_nil, within_one, within_when, within_only, within_append, within_each, within_cond)

-- the parts that go by cases
entry_kinds : (k : Bkey) (parent : Option ℕ) → Within (37 ∷ 38 ∷ []) (wrong_entry k parent)
unfolding wrong_entry has
entry_kinds k None = search within
entry_kinds k (Some p) = search within

master_kinds : (tree_of : List (ℕ × ℕ)) (id subvolume : ℕ) (snap : Option ℕ) → Within link_kinds (master_findings tree_of id subvolume snap)
unfolding master_findings has
master_kinds tree_of id subvolume None = search within
master_kinds tree_of id subvolume (Some snap) = search within

gap_kinds : (at : ℕ) (xs : List (ℕ × Option ℕ)) (to : ℕ) → Within (47 ∷ 48 ∷ 49 ∷ 50 ∷ []) (gap_findings at xs to)
unfolding gap_findings has
gap_kinds at [] to = search within
gap_kinds at (x ∷ xs) to =
    within_append (when (ltb at x.0) (finding 50 at x.0)) _ (search within) (within_append (when (is_free x.1) (finding 49 x.0 0)) _ (search within) (gap_kinds (suc x.0) xs to))

-- the rules on one key but that on types
pub device_kinds : (device i : ℕ) (k : Bkey) → Within (1 ∷ 2 ∷ []) (check_key_device device i k)
unfolding has check_key_device
device_kinds device i k = search within depth 24

pub field_kinds : (i : ℕ) (k : Bkey)
    → Within (3 ∷ 4 ∷ 5 ∷ 6 ∷ 7 ∷ 8 ∷ 9 ∷ 10 ∷ 11 ∷ 12 ∷ 13 ∷ 14 ∷ 15 ∷ 16 ∷ 17 ∷ 18 ∷ 19 ∷ 20 ∷ 21 ∷ []) (check_key_fields i k)
unfolding has check_key_fields check_accounting_key check_inode_v3_word check_snapshot_pad check_alloc_v4_value check_position
field_kinds i k = search within depth 24

pub word_kinds : (version i : ℕ) (k : Bkey) → Within (23 ∷ 24 ∷ 25 ∷ 26 ∷ 27 ∷ 28 ∷ []) (check_state_words version i k)
unfolding has check_state_words snapshot_state subvolume_state subvolume_word
word_kinds version i k = search within depth 24

-- the rules
pub key_kinds_lem : (b : Book) → Within key_kinds (each (key_findings b) 0 b.keys)
unfolding has key_findings key_rules check_key_device check_key_type check_key_fields check_accounting_key check_inode_v3_word check_snapshot_pad check_alloc_v4_value check_position check_state_words snapshot_state subvolume_state subvolume_word
key_kinds_lem b = search within depth 24

pub subvolume_kinds : (b : Book) → Within (29 ∷ 30 ∷ 31 ∷ []) (subvolume_states b)
unfolding has subvolume_states subvolume_findings
subvolume_kinds b = search within depth 24

pub claim_kinds : (b : Book) → Within (32 ∷ []) (snapshot_claims b)
unfolding has snapshot_claims claim_findings
claim_kinds b = search within depth 24

pub state_kinds : (b : Book) → Within (33 ∷ 34 ∷ 35 ∷ []) (snapshot_states b)
unfolding has snapshot_states snapshot_state_findings
state_kinds b = search within depth 24

pub flag_kinds : (b : Book) → Within (36 ∷ []) (snapshot_subvol_flags b)
unfolding has snapshot_subvol_flags flag_findings
flag_kinds b = search within depth 24

pub child_kinds : (b : Book) → Within (37 ∷ 38 ∷ []) (subvolume_children b)
unfolding has subvolume_children missing_entry
child_kinds b = search (within, entry_kinds) depth 24

pub link_kinds_lem : (b : Book) → Within link_kinds (snapshot_links b)
unfolding has snapshot_links tree_findings link_findings root_findings backref_findings child_findings skip_findings
link_kinds_lem b = search (within, master_kinds) depth 24

pub gen_kinds : (b : Book) → Within (46 ∷ []) (bucket_gens_against_alloc b)
unfolding has bucket_gens_against_alloc gens_of_key gen_at uncovered
gen_kinds b = search within depth 24

pub run_kinds : (b : Book) → Within (47 ∷ 48 ∷ 49 ∷ 50 ∷ []) (free_space b)
unfolding has free_space run_findings set_findings
run_kinds b = search (within, gap_kinds) depth 24

-- a rule before others
before : {k : Kinds} {ks : List Kinds} → ((b : Book) → Within k.kinds (k.rule b)) → ((j : Kinds) → j ∈ ks → (b : Book) → Within j.kinds (j.rule b))
    → (j : Kinds) → j ∈ (k ∷ ks) → (b : Book) → Within j.kinds (j.rule b)
before h hs j (Memᴰ.head e) b = subst (λ (j : Kinds). Within j.kinds (j.rule b)) (sym e) (h b)
before h hs j (Memᴰ.tail m) b = hs j m b

-- THE LAW: every rule of the table gives only the kinds that stand beside it
pub rules_within : (k : Kinds) → k ∈ kinds_of → (b : Book) → Within k.kinds (k.rule b)
unfolding kinds_of
rules_within =
    before key_kinds_lem
    (before subvolume_kinds
    (before claim_kinds
    (before state_kinds
    (before flag_kinds (before child_kinds (before link_kinds_lem (before gen_kinds (before run_kinds (λ j m. absurd (Memᴰ.not-nil m))))))))))

-- and the table has every rule, in the order of the list
pub list_is : (b : Book) → list_of kinds_of b ≡ findings_of b
unfolding kinds_of list_of findings_of
list_is b = rw (append-nil (free_space b))
