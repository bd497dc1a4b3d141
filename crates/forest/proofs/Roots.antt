-- Laws of `root_within`, over any parents table.
use Rattle.std.specs.Prelude.{None, Option, Some}
use mathlib.Core.Logic.{◌↔◌}
use mathlib.Core.List.{List, [], ◌∷◌}
use Rattle.std.proofs.lemmas.Option.{same_Some}
use mathlib.Core.Path.{◌≡◌, refl, ap, sym, subst, ◌∙◌}
use Prim.Native.Nat.{ℕ, zero, suc, ◌≤◌}
use native.Mathlib.Omega.{arith}
use Rattle.book.specs.Maps.{lookup}
use Rattle.parents.specs.Roots.{one_more, root_within, root_of}
use Rattle.parents.specs.Chains.{chain}
use Rattle.parents.specs.Roots.{above}
use Rattle.parents.proofs.Links.{link_to, link_top, chain_more, chain_end, root_more, root_full, root_here, root_absent}
use Rattle.parents.proofs.Laws.{root_all}

-- the ids at 1, 2, .. up to n links
unfoldable pub links_up : List (ℕ × ℕ) → ℕ → ℕ → List ℕ
links_up parents zero at = []
links_up parents (suc n) at = elim (lookup at parents) [ None ↦ [] | Some p ↦ p ∷ links_up parents n p ]

pub some_not_none : {A B : Type 0} {x : A} → Some x ≡ None → B
some_not_none e = let z : ◌≡◌ {A = ℕ} 0 1 = cc in absurd (omega arith)

pub pair_same : (x y : ℕ × ℕ) → Some x ≡ Some y → (x.0 ≡ y.0) × (x.1 ≡ y.1)
pair_same x y e = let q = same_Some x y e in (ap (λ (p : ℕ × ℕ). p.0) q, ap (λ (p : ℕ × ℕ). p.1) q)

-- FROM THE TABLE TO THE ROOT

one_more_lem : (o : Option (ℕ × ℕ)) (i n : ℕ) → one_more o ≡ Some (i, n) → (k : ℕ) × (o ≡ Some (i, k)) × (n ≡ suc k)
unfolding one_more
one_more_lem None i n e = some_not_none (sym e)
one_more_lem (Some r) i n e =
    let q = pair_same (r.0, suc r.1) (i, n) e in
    (r.1, ap (λ (k : ℕ). Some (k, r.1)) q.0, sym q.1)

module _ (t : List (ℕ × ℕ)) where
  -- THE ROOT, AS DOCUMENT 01 SAYS IT

  -- k links lead from `at`, through present ids, to `i`, whose parent is 0
  abbrev pub Way : ℕ → ℕ → ℕ → Type 0
  Way zero at i = (lookup at t ≡ Some 0) × (at ≡ i)
  Way (suc k) at i = (p : ℕ) × (lookup at t ≡ Some p) × (p ≡ 0 → ⊥) × Way k p i

  pub way_root : (k n at i : ℕ) → Way k at i → k ≤ n → root_within t n at ≡ Some (i, k)
  unfolding one_more
  way_root zero n at i w h = root_here t at n w.0 ∙ ap (λ (j : ℕ). Some (j, 0)) w.1
  way_root (suc k) zero at i w h = absurd (omega arith)
  way_root (suc k) (suc n) at i w h =
      root_more t at n (link_to t at w.1 w.2) ∙ ap one_more (way_root k n w.0 i w.3 (omega arith))

  -- the three cases of an id with a root
  here_way : (n at i k : ℕ) → lookup at t ≡ Some 0 → root_within t n at ≡ Some (i, k) → Way k at i × (k ≤ n)
  here_way n at i k e f =
      let q = pair_same (at, 0) (i, k) (sym (root_here t at n e) ∙ f) in
      (subst (λ (j : ℕ). Way j at i) q.1 (e, q.0), omega (arith, q.1))

  link_way : (n at p i k : ℕ) → lookup at t ≡ Some p → (p ≡ 0 → ⊥) → root_within t (suc n) at ≡ Some (i, k)
      → ((j : ℕ) → root_within t n p ≡ Some (i, j) → Way j p i × (j ≤ n)) → Way k at i × (k ≤ suc n)
  link_way n at p i k e z f ih =
      let m = one_more_lem (root_within t n p) i k (sym (root_more t at n (link_to t at e z)) ∙ f) in
      let w = ih m.0 m.1 in
      (subst (λ (j : ℕ). Way j at i) (sym m.2) (p, e, z, w.0), omega (arith, m.2, w.1))

  pub root_way : (n at i k : ℕ) → root_within t n at ≡ Some (i, k) → Way k at i × (k ≤ n)
  root_way zero at i k h = go (lookup at t) refl
    where
      go : (o : Option ℕ) → lookup at t ≡ o → Way k at i × (k ≤ 0)
      go None e = some_not_none (sym h ∙ root_absent t at 0 e)
      go (Some zero) e = here_way 0 at i k e h
      go (Some (suc p)) e = some_not_none (sym h ∙ root_full t at (link_to t at e (omega arith)))
  root_way (suc n) at i k h = go (lookup at t) refl (λ p j f. root_way n p i j f)
    where
      go : (o : Option ℕ) → lookup at t ≡ o → ((p j : ℕ) → root_within t n p ≡ Some (i, j) → Way j p i × (j ≤ n)) → Way k at i × (k ≤ suc n)
      go None e ih = some_not_none (sym h ∙ root_absent t at (suc n) e)
      go (Some zero) e ih = here_way (suc n) at i k e h
      go (Some (suc p)) e ih = link_way n at (suc p) i k e (omega arith) h (ih (suc p))

  -- a root exists within n links exactly if some number of links, at most n, leads to it
  pub root_exact : (n at i k : ℕ) → (root_within t n at ≡ Some (i, k)) ↔ (Way k at i × (k ≤ n))
  root_exact n at i k = (root_way n at i k, λ w. way_root k n at i w.0 w.1)

  -- an id is at one number of links from its root
  pub way_one : (j k x i i' : ℕ) → Way j x i → Way k x i' → j ≡ k
  way_one zero zero x i i' v w = refl
  way_one zero (suc k) x i i' v w = absurd (w.2 (same_Some _ _ (sym w.1 ∙ v.0)))
  way_one (suc j) zero x i i' v w = absurd (v.2 (same_Some _ _ (sym v.1 ∙ w.0)))
  way_one (suc j) (suc k) x i i' v w =
      let e = same_Some w.0 v.0 (sym w.1 ∙ v.1) in
      ap suc (way_one j k v.0 i i' v.3 (subst (λ (p : ℕ). Way k p i') e w.3))

  -- THE IDS ON THE WAY

  pub up_link : (n at p : ℕ) → lookup at t ≡ Some p → links_up t (suc n) at ≡ p ∷ links_up t n p
  unfolding links_up
  up_link n at p e = rw (e, links_up)

  -- with a root they are all that stands above the id
  way_chain : (k n at i : ℕ) → Way k at i → k ≤ n → chain t at n ≡ links_up t k at
  unfolding links_up
  way_chain zero n at i w h = chain_end t at n (link_top t at w.0)
  way_chain (suc k) zero at i w h = absurd (omega arith)
  way_chain (suc k) (suc n) at i w h =
      chain_more t at n (link_to t at w.1 w.2) ∙ ap (λ (l : List ℕ). w.0 ∷ l) (way_chain k n w.0 i w.3 (omega arith)) ∙ sym (up_link k at w.0 w.1)

  pub above_up : (id : ℕ) (r : ℕ × ℕ) → root_of t id ≡ Some r → above t id ≡ links_up t r.1 id
  unfolding root_of
  above_up id r e = let w = root_way 1024 id r.0 r.1 e in (root_all t id e).0 ∙ way_chain r.1 1024 id r.0 w.0 w.1
