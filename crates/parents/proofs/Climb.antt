-- What a walk up the parents keeps, and what its ends give.
use Rattle.std.specs.Prelude.{None, Option, Some}
use Prim.Native.Nat.{ℕ, suc, ◌+◌, ◌-◌, ◌≤◌, ◌<◌}
use mathlib.Core.Path.{◌≡◌, refl, sym, ap, ◌∙◌}
use mathlib.Core.List.{List}
use native.Mathlib.Nat.{add-zero, zero-add}
use native.Mathlib.Omega.{arith}
use Rattle.book.specs.Maps.{lookup}
use Rattle.book.proofs.Maps.{word_is, word_absent}
use Rattle.parents.specs.Roots.{one_more, root_within, root_of}
use Rattle.parents.specs.Chains.{root_answer}
use Rattle.parents.proofs.Links.{link, link_to, root_more, root_full, root_here, root_absent}

-- a root that lies k links further
unfoldable pub past : ℕ → Option (ℕ × ℕ) → Option (ℕ × ℕ)
past k None = None
past k (Some r) = Some (r.0, k + r.1)

past_none : (o : Option (ℕ × ℕ)) → o ≡ past 0 o
unfolding past
past_none None = refl
past_none (Some r) = ap (λ (k : ℕ). Some (r.0, k)) (sym (zero-add r.1))

past_more : (k : ℕ) (o : Option (ℕ × ℕ)) → past k (one_more o) ≡ past (k + 1) o
unfolding past one_more
past_more k None = refl
past_more k (Some r) = ap (λ (j : ℕ). Some (r.0, j)) (omega arith)

-- `links` links lead from id to `at`, past no root
pub record Climbed (t : List (ℕ × ℕ)) (id at links : ℕ) : Type 0 where
  pub few : links ≤ 1024
  pub rest : root_of t id ≡ past links (root_within t (1024 - links) at)

pub climbed_start : (t : List (ℕ × ℕ)) (id : ℕ) → Climbed t id id 0
unfolding root_of
climbed_start t id = record { few = omega arith; rest = past_none (root_within t 1024 id) }

-- the links left, one taken off
pub one_less : (links : ℕ) → links < 1024 → 1024 - links ≡ suc (1024 - (links + 1))
one_less links l = omega arith

-- what an answer of `parent_of` says of `at`: its parent is 0, another id, or absent
module _ (t : List (ℕ × ℕ)) (at : ℕ) {r : Option ℕ} (e : r ≡ (lookup at t)) where
  pub top_is : {p : ℕ} → r ≡ Some p → p ≡ 0 → lookup at t ≡ Some 0
  top_is f z = word_is _ (sym e ∙ f) ∙ ap Some z

  pub link_is : {p : ℕ} → r ≡ Some p → (p ≡ 0 → ⊥) → link t at ≡ Some p
  link_is f z = link_to t at (word_is _ (sym e ∙ f)) z

  pub absent_is : r ≡ None → lookup at t ≡ None
  absent_is f = word_absent _ (sym e ∙ f)

module _ {t : List (ℕ × ℕ)} {id at links : ℕ} (c : Climbed t id at links) {r : Option ℕ} (e : r ≡ (lookup at t)) where
  pub climbed_more : {p : ℕ} → r ≡ Some p → (p ≡ 0 → ⊥) → (links ≡ 1024 → ⊥) → Climbed t id p (links + 1)
  climbed_more f z l =
      let less : links < 1024 = omega arith in
      record {
        few = omega arith;
        rest = c.rest ∙ rw (one_less links less, root_more t at (1024 - (links + 1)) (link_is t at e f z)) (past_more links _);
      }

  pub climbed_root : {p : ℕ} → r ≡ Some p → p ≡ 0 → Some (record { root = at; links = links }) ≡ root_answer (root_of t id)
  unfolding past root_answer
  climbed_root f z = rw (c.rest, root_here t at (1024 - links) (top_is t at e f z), add-zero links)

  pub climbed_absent : r ≡ None → None ≡ root_answer (root_of t id)
  unfolding past root_answer
  climbed_absent f = rw (c.rest, root_absent t at (1024 - links) (absent_is t at e f))

  pub climbed_full : {p : ℕ} → r ≡ Some p → (p ≡ 0 → ⊥) → links ≡ 1024 → None ≡ root_answer (root_of t id)
  unfolding past root_answer
  climbed_full f z full =
      let none_left : 1024 - links ≡ 0 = omega arith in
      rw (c.rest, none_left, root_full t at (link_is t at e f z))

-- the same of a loop over the numbers of links, at whose end 1,024 links have led to no root
pub record Climbing (t : List (ℕ × ℕ)) (id at links : ℕ) : Type 0 where
  pub way : links ≤ 1024 → Climbed t id at links
  pub end : 1024 < links → None ≡ root_answer (root_of t id)

pub climbing_start : (t : List (ℕ × ℕ)) (id : ℕ) → Climbing t id id 0
climbing_start t id = record { way = λ h. climbed_start t id; end = λ h. absurd (omega arith) }

pub climbing_more : {t : List (ℕ × ℕ)} {id at links : ℕ} → Climbing t id at links → links ≤ 1024 → {r : Option ℕ} → r ≡ lookup at t
    → {p : ℕ} → r ≡ Some p → (p ≡ 0 → ⊥) → Climbing t id p (links + 1)
climbing_more {links = links} c few e f z = record {
  way = λ h. climbed_more (c.way few) e f z (λ k. absurd (omega arith));
  end = λ h. climbed_full (c.way few) e f z (omega arith);
}
