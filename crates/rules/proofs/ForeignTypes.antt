-- Kind 22 among the findings of a key: once where its type is foreign, with what the other rules found as it was.
use Prim.Native.Nat.{ℕ, suc, ◌+◌}
use mathlib.Core.Path.{◌≡◌, refl, sym, ap, ◌∙◌}
use mathlib.Core.Bool.{Bool, true, false, true≢false, not, cond, ◌||◌}
use mathlib.Core.Logic.{⊎_elim}
use mathlib.Core.List.Memᴰ
use mathlib.Core.List.{List, [], ◌∷◌, ◌++◌, append-nil}
use native.Mathlib.Omega.{arith}
use lib.Dec.{eqb}
use borrow.Author.Tests.{eqb-true}
use Rattle.findings.specs.Findings.{Finding, finding, when, keep, count_of}
use Rattle.pairs.specs.Pairs.{has}
use Rattle.pairs.proofs.Order.{tested, both_true}
use Rattle.maps.proofs.Pairs.{keep_append}
use Rattle.book.specs.Maps.{lookup}
use Rattle.book.specs.Book.{Bkey, is}
use Rattle.fields.specs.CheckKeyDevice.{check_key_device}
use Rattle.fields.specs.CheckKeyFields.{check_key_fields}
use Rattle.types.specs.CheckKeyType.{key_types_anywhere, key_types_allowed, outside, foreign_type, check_key_type}
use Rattle.states.specs.CheckStateWords.{check_state_words}
use Rattle.keys.specs.KeyFindings.{key_rules}
use Rattle.keys.proofs.Foreign.{fields_foreign, states_foreign, rules_turn}
use Rattle.rules.specs.Kinds.{Within}
use Rattle.rules.specs.ForeignTypes.{formerly_foreign, former_rules, others, TypedOnce}
use Rattle.rules.proofs.RuleKinds.{device_kinds, field_kinds, word_kinds}

-- ---- counts by kind

count_more : (test : Bool) (m n : ℕ) → cond test (suc (m + n)) (m + n) ≡ cond test (suc m) m + n
count_more true m n = omega arith
count_more false m n = refl

count_append : (kind : ℕ) (fs gs : List Finding) → count_of kind (fs ++ gs) ≡ count_of kind fs + count_of kind gs
unfolding count_of
count_append kind [] gs = omega arith
count_append kind (f ∷ fs) gs =
    ap (λ (n : ℕ). cond (eqb kind f.kind) (suc n) n) (count_append kind fs gs) ∙ count_more (eqb kind f.kind) (count_of kind fs) (count_of kind gs)

within_rest : {kinds : List ℕ} {f : Finding} {fs : List Finding} → Within kinds (f ∷ fs) → Within kinds fs
within_rest w = record { kind = λ g m. w.kind g (Memᴰ.tail m) }

count_none : (kind : ℕ) (kinds : List ℕ) (fs : List Finding) → has kind kinds ≡ false → Within kinds fs → count_of kind fs ≡ 0
unfolding count_of
count_none kind kinds [] absent w = refl
count_none kind kinds (f ∷ fs) absent w = ⊎_elim
    (λ e. absurd (true≢false (sym (w.kind f (Memᴰ.head refl)) ∙ ap (λ (n : ℕ). has n kinds) (sym (eqb-true kind f.kind e)) ∙ absent)))
    (λ e. rw e (count_none kind kinds fs absent (within_rest w)))
    (tested (eqb kind f.kind))

-- one of the kind itself
count_when : (test : Bool) (i : ℕ) → count_of 22 (when test (finding 22 i 0)) ≡ cond test 1 0
unfolding when count_of
count_when true i = refl
count_when false i = refl

others_when : (test : Bool) (i : ℕ) → others 22 (when test (finding 22 i 0)) ≡ []
unfolding when others keep
others_when true i = refl
others_when false i = refl

-- ---- types that are foreign

either : {P : Type 0} (a b : Bool) → (a ≡ true → P) → (b ≡ true → P) → a || b ≡ true → P
either true b p q e = p refl
either false b p q e = q e

module _ (k : Bkey) where
  -- a key of this btree and this type
  typed : (b t : ℕ) {test : Bool} → foreign_type b t ≡ test → is b t k ≡ true → foreign_type k.btree k.key_type ≡ test
  unfolding is
  typed b t e h =
      let both = both_true (eqb k.btree b) (eqb k.key_type t) h in
      rw (eqb-true k.btree b both.0, eqb-true k.key_type t both.1) e

  overlap : formerly_foreign k ≡ true → foreign_type k.btree k.key_type ≡ true
  unfolding formerly_foreign foreign_type outside lookup has key_types_allowed key_types_anywhere
  overlap =
      either _ _ (typed _ _ refl)
      (either _ _ (either _ _ (typed _ _ refl) (typed _ _ refl)) (either _ _ (typed _ _ refl) (typed _ _ refl)))

-- ---- kind 22 once, and the others as they were

once : (device version i : ℕ) (k : Bkey) → count_of 22 (key_rules device version i k) ≡ cond (foreign_type k.btree k.key_type) 1 0
unfolding check_key_type has
once device version i k =
    rw (
      sym (rules_turn device version i k),
      count_append 22 (check_key_device device i k) (check_key_type i k ++ (check_key_fields i k ++ check_state_words version i k)),
      count_append 22 (check_key_type i k) (check_key_fields i k ++ check_state_words version i k),
      count_append 22 (check_key_fields i k) (check_state_words version i k),
      count_none 22 _ (check_key_device device i k) refl (device_kinds device i k),
      count_none 22 _ (check_key_fields i k) refl (field_kinds i k),
      count_none 22 _ (check_state_words version i k) refl (word_kinds version i k),
      count_when (foreign_type k.btree k.key_type) i,
    ) (omega arith)

-- the other findings of four lists, of which the second has none, and of the four with it elsewhere
stays : (test : Finding → Bool) (ds ts fs os ss : List Finding) → keep test ts ≡ [] → keep test os ≡ []
    → keep test (ds ++ (ts ++ (fs ++ ss))) ≡ keep test (ds ++ ((fs ++ os) ++ ss))
stays test ds ts fs os ss t o =
    rw (
      keep_append test ds (ts ++ (fs ++ ss)),
      keep_append test ts (fs ++ ss),
      keep_append test ds ((fs ++ os) ++ ss),
      keep_append test (fs ++ os) ss,
      keep_append test fs os,
      keep_append test fs ss,
      t,
      o,
      append-nil (keep test fs),
    )

stay : (device version i : ℕ) (k : Bkey) → others 22 (key_rules device version i k) ≡ others 22 (former_rules device version i k)
unfolding former_rules check_key_type others
stay device version i k =
    ap (others 22) (sym (rules_turn device version i k))
    ∙ stays (λ (f : Finding). not (eqb f.kind 22)) (check_key_device device i k) (check_key_type i k) (check_key_fields i k)
    (when (formerly_foreign k) (finding 22 i 0)) (check_state_words version i k) (others_when (foreign_type k.btree k.key_type) i)
    (others_when (formerly_foreign k) i)

-- THE CLAIM
pub typed_once : (device version i : ℕ) (k : Bkey) → TypedOnce device version i k
typed_once device version i k =
    record { overlap = overlap k; once = once device version i k; stay = stay device version i k; last = λ foreign. rw (fields_foreign k foreign i, states_foreign k foreign version i) }
