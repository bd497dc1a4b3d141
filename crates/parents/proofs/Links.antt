-- One link up: what it does to the root, to the chain and to the ids followed.
use Rattle.std.specs.Prelude.{None, Option, Some}
use Prim.Native.Nat.{ℕ, zero, suc}
use mathlib.Core.Path.{◌≡◌, refl, ap, ◌∙◌}
use mathlib.Core.Bool.{cond}
use mathlib.Core.List.{List, [], ◌∷◌}
use native.Mathlib.Omega.{arith}
use Rattle.pairs.specs.Pairs.{has}
use Rattle.book.specs.Maps.{lookup}
use Rattle.parents.specs.Roots.{one_more, root_via, root_within, followed_via, followed}
use Rattle.parents.specs.Chains.{chain_via, chain}

-- anything follows where two constructors would be equal: `clash (cc)`
pub clash : {A : Type 0} → ◌≡◌ {A = ℕ} 0 1 → A
clash z = absurd (omega arith)

-- the id that a link leads to, by what the parents have: a parent of 0 is no link
unfoldable pub next : Option ℕ → Option ℕ
next None = None
next (Some zero) = None
next (Some (suc p)) = Some (suc p)

next_to : (p : ℕ) → (p ≡ 0 → ⊥) → next (Some p) ≡ Some p
unfolding next
next_to zero z = absurd (z refl)
next_to (suc p) z = refl

-- the definitions, by that id
chain_next : (more : ℕ → List ℕ) (o : Option ℕ) {p : ℕ} → next o ≡ Some p → chain_via more o ≡ p ∷ more p
unfolding next chain_via
chain_next more None e = clash (cc)
chain_next more (Some zero) e = clash (cc)
chain_next more (Some (suc p)) e = cc

chain_stop : (more : ℕ → List ℕ) (o : Option ℕ) → next o ≡ None → chain_via more o ≡ []
unfolding next chain_via
chain_stop more None e = refl
chain_stop more (Some zero) e = refl
chain_stop more (Some (suc p)) e = clash (cc)

followed_next : (seen : List ℕ) (more : ℕ → List ℕ) (o : Option ℕ) {p : ℕ} → next o ≡ Some p →
    followed_via seen more o ≡ cond (has p seen) [] (p ∷ more p)
unfolding next followed_via
followed_next seen more None e = clash (cc)
followed_next seen more (Some zero) e = clash (cc)
followed_next seen more (Some (suc p)) e = cc

followed_stop : (seen : List ℕ) (more : ℕ → List ℕ) (o : Option ℕ) → next o ≡ None → followed_via seen more o ≡ []
unfolding next followed_via
followed_stop seen more None e = refl
followed_stop seen more (Some zero) e = refl
followed_stop seen more (Some (suc p)) e = clash (cc)

root_next : (at : ℕ) (up : ℕ → Option (ℕ × ℕ)) (o : Option ℕ) {p : ℕ} → next o ≡ Some p → root_via at up o ≡ one_more (up p)
unfolding next root_via
root_next at up None e = clash (cc)
root_next at up (Some zero) e = clash (cc)
root_next at up (Some (suc p)) e = cc

module _ (t : List (ℕ × ℕ)) where
  -- the id that a link from `at` leads to
  unfoldable pub link : ℕ → Option ℕ
  link at = next (lookup at t)

  -- what the parents have for an id: nothing, 0, or a link
  pub by_link : {P : Type 0} (at : ℕ) → (lookup at t ≡ None → P) → (lookup at t ≡ Some 0 → P) → ((p : ℕ) → link at ≡ Some p → P) → P
  unfolding next link
  by_link {P} at absent top more = go (lookup at t) refl
    where
      go : (o : Option ℕ) → lookup at t ≡ o → P
      go None e = absent e
      go (Some zero) e = top e
      go (Some (suc p)) e = more (suc p) (rw e)

  module _ (at : ℕ) where
    pub link_to : {p : ℕ} → lookup at t ≡ Some p → (p ≡ 0 → ⊥) → link at ≡ Some p
    unfolding link
    link_to e z = ap next e ∙ next_to _ z

    pub link_absent : lookup at t ≡ None → link at ≡ None
    unfolding next link
    link_absent e = rw e

    pub link_top : lookup at t ≡ Some 0 → link at ≡ None
    unfolding next link
    link_top e = rw e

    -- a link leads on from an id, or none does
    pub by_step : {P : Type 0} → (link at ≡ None → P) → ((p : ℕ) → link at ≡ Some p → P) → P
    by_step stop more = by_link at (λ e. stop (link_absent e)) (λ e. stop (link_top e)) more

    pub chain_more : (n : ℕ) {p : ℕ} → link at ≡ Some p → chain t at (suc n) ≡ p ∷ chain t p n
    unfolding link chain
    chain_more n e = chain_next _ (lookup at t) e

    pub chain_end : (n : ℕ) → link at ≡ None → chain t at n ≡ []
    unfolding link chain
    chain_end zero e = refl
    chain_end (suc n) e = chain_stop _ (lookup at t) e

    pub followed_more : (seen : List ℕ) (n : ℕ) {p : ℕ} → link at ≡ Some p →
        followed t seen at (suc n) ≡ cond (has p seen) [] (p ∷ followed t (p ∷ seen) p n)
    unfolding link followed
    followed_more seen n e = followed_next seen _ (lookup at t) e

    pub followed_end : (seen : List ℕ) (n : ℕ) → link at ≡ None → followed t seen at n ≡ []
    unfolding link followed
    followed_end seen zero e = refl
    followed_end seen (suc n) e = followed_stop seen _ (lookup at t) e

    pub root_more : (n : ℕ) {p : ℕ} → link at ≡ Some p → root_within t (suc n) at ≡ one_more (root_within t n p)
    unfolding link root_within
    root_more n e = root_next at _ (lookup at t) e

    -- a link where none is left to follow
    pub root_full : {p : ℕ} → link at ≡ Some p → root_within t 0 at ≡ None
    unfolding link root_within one_more
    root_full e = root_next at _ (lookup at t) e

    pub root_here : (n : ℕ) → lookup at t ≡ Some 0 → root_within t n at ≡ Some (at, 0)
    unfolding root_within root_via
    root_here zero e = rw e
    root_here (suc n) e = rw e

    pub root_absent : (n : ℕ) → lookup at t ≡ None → root_within t n at ≡ None
    unfolding root_within root_via
    root_absent zero e = rw e
    root_absent (suc n) e = rw e
