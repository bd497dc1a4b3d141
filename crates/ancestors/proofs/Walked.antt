-- What the loop of `ancestors_of` keeps, and what its ends give.
use Rattle.std.specs.Prelude.{None, Option, Some}
use Prim.Native.Nat.{ℕ, ◌+◌, ◌-◌}
use mathlib.Core.Path.{◌≡◌, refl, sym, ap, ◌∙◌}
use mathlib.Core.List.{List, [], ◌∷◌, ◌++◌, append_assoc, append-nil}
use native.Mathlib.Omega.{arith}
use lib.ListN.{length, set, replicate, length-append}
use lib.Seq.{set_at}
use Rattle.book.specs.Maps.{lookup}
use Rattle.parents.specs.Roots.{root_of}
use Rattle.parents.specs.Chains.{root_answer, chain}
use Rattle.parents.specs.declared.Root.{Root}
use Rattle.parents.proofs.Links.{link_top, link_absent, chain_more, chain_end}
use Rattle.parents.proofs.Climb.{Climbed, climbed_start, one_less, top_is, link_is, absent_is, climbed_more, climbed_root, climbed_absent, climbed_full}
use Rattle.ancestors.specs.Lines.{padded, ancestors_of}
use Rattle.ancestors.specs.declared.Ancestors.{Ancestors}

-- the first `len` ids of the array are those on the way from id to `at`; the rest are zeros
pub record Walked (t : List (ℕ × ℕ)) (id : ℕ) (ids : List ℕ) (len at : ℕ) : Type 0 where
  pub passed : List ℕ
  pub len_is : length passed ≡ len
  pub ids_are : ids ≡ passed ++ replicate (1024 - len) 0
  pub chain_is : chain t id 1024 ≡ passed ++ chain t at (1024 - len)
  pub climbed : Climbed t id at len

pub walked_start : (t : List (ℕ × ℕ)) (id : ℕ) → Walked t id (replicate 1024 0) 0 id
walked_start t id = record { passed = []; len_is = refl; ids_are = refl; chain_is = refl; climbed = climbed_start t id }

-- what is answered where the chain is what was passed
answer : (t : List (ℕ × ℕ)) (id len : ℕ) (passed ids : List ℕ) (root : Option Root) → chain t id 1024 ≡ passed → length passed ≡ len →
    ids ≡ passed ++ replicate (1024 - len) 0 → root ≡ root_answer (root_of t id) →
    ◌≡◌ {A = Ancestors} (record { ids = ids; len = len; root = root }) (ancestors_of t id)
unfolding ancestors_of padded
answer t id len passed ids root c l i r = rw (c, l) (cc)

module _ {t : List (ℕ × ℕ)} {id at len : ℕ} {ids : List ℕ} (w : Walked t id ids len at) where
  -- the walk is over where the chain has no more ids
  over : {root : Option Root} → chain t at (1024 - len) ≡ [] → root ≡ root_answer (root_of t id) →
      ◌≡◌ {A = Ancestors} (record { ids = ids; len = len; root = root }) (ancestors_of t id)
  over e r = answer t id len w.passed ids _ (w.chain_is ∙ rw (e, append-nil w.passed)) w.len_is w.ids_are r

  module _ {r : Option ℕ} (e : r ≡ (lookup at t)) where
    pub walked_more : {p : ℕ} → r ≡ Some p → (p ≡ 0 → ⊥) → (len ≡ 1024 → ⊥) → Walked t id (set ids len p) (len + 1) p
    walked_more {p} f z l =
        let few = w.climbed.few in
        let less = one_less len (omega arith) in
        let zeros : List ℕ = replicate (1024 - (len + 1)) 0 in
        record {
          passed = w.passed ++ (p ∷ []);
          len_is = length-append w.passed (p ∷ []) ∙ ap (λ (n : ℕ). n + 1) w.len_is;
          ids_are = rw (w.ids_are, less) (set_at w.passed 0 zeros p len w.len_is ∙ sym (append_assoc w.passed (p ∷ []) zeros));
          chain_is = w.chain_is ∙ rw (less, chain_more t at (1024 - (len + 1)) (link_is t at e f z)) (sym (append_assoc w.passed (p ∷ []) _));
          climbed = climbed_more w.climbed e f z l;
        }

    pub walked_root : {p : ℕ} → r ≡ Some p → p ≡ 0 → ◌≡◌ {A = Ancestors} (record { ids = ids; len = len; root = Some (record { root = at; links = len }) }) (ancestors_of t id)
    walked_root f z = over (chain_end t at (1024 - len) (link_top t at (top_is t at e f z))) (climbed_root w.climbed e f z)

    pub walked_absent : r ≡ None → ◌≡◌ {A = Ancestors} (record { ids = ids; len = len; root = None }) (ancestors_of t id)
    walked_absent f = over (chain_end t at (1024 - len) (link_absent t at (absent_is t at e f))) (climbed_absent w.climbed e f)

    pub walked_full : {p : ℕ} → r ≡ Some p → (p ≡ 0 → ⊥) → len ≡ 1024 →
        ◌≡◌ {A = Ancestors} (record { ids = ids; len = len; root = None }) (ancestors_of t id)
    unfolding chain
    walked_full f z full =
        let none_left : 1024 - len ≡ 0 = omega arith in
        over (rw none_left) (climbed_full w.climbed e f z full)
