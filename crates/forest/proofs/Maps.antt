-- Laws of `lookup`, `insert` and `collect`.
use Rattle.std.specs.Prelude.{None, Option, Some}
use mathlib.Core.Bool.{Bool, true, false, cond}
use mathlib.Core.Logic.{◌⊎◌, inl, inr, ⊎_elim}
use mathlib.Core.List.Memᴰ
use mathlib.Core.List.{List, [], ◌∷◌, map}
use mathlib.Core.Path.{◌≡◌, refl, ap, sym, subst, ◌∙◌}
use Prim.Native.Nat.{ℕ}
use native.Mathlib.Omega.{arith}
use lib.Dec.{eqb, ltb}
use borrow.Author.Tests.{eqb-true, eqb-false, eq-eqb, ne_eqb}
use Rattle.forest.specs.Lists.{◌∈◌, Distinct}
use Rattle.book.specs.Maps.{lookup, insert, insert_all, collect}

pub eq_or_not : (i j : ℕ) → (i ≡ j) ⊎ (i ≡ j → ⊥)
eq_or_not i j = go (eqb i j) refl
  where
    go : (b : Bool) → eqb i j ≡ b → (i ≡ j) ⊎ (i ≡ j → ⊥)
    go true e = inl (eqb-true i j e)
    go false e = inr (eqb-false i j e)

module _ {A : Type 0} where
  -- the pair with the id is found, or what stands behind it
  pub lookup_here : (i : ℕ) (e : ℕ × A) (m : List (ℕ × A)) → i ≡ e.0 → lookup i (e ∷ m) ≡ Some e.1
  unfolding lookup
  lookup_here i e m h = rw (eq-eqb i e.0 h)

  pub lookup_past : (i : ℕ) (e : ℕ × A) (m : List (ℕ × A)) → (i ≡ e.0 → ⊥) → lookup i (e ∷ m) ≡ lookup i m
  unfolding lookup
  lookup_past i e m h = rw (ne_eqb i e.0 h)

  pub lookup_mem : (i : ℕ) (m : List (ℕ × A)) (v : A) → lookup i m ≡ Some v → (i, v) ∈ m
  unfolding lookup
  lookup_mem i [] v h = let z : ◌≡◌ {A = ℕ} 0 1 = cc in absurd (omega arith)
  lookup_mem i (e ∷ m) v h = go (eq_or_not i e.0) (λ h'. lookup_mem i m v h')
    where
      go : (i ≡ e.0) ⊎ (i ≡ e.0 → ⊥) → (lookup i m ≡ Some v → (i, v) ∈ m) → (i, v) ∈ (e ∷ m)
      go (inl p) ih =
          let q : e.1 ≡ v = cc (lookup_here i e m p) in
          Memᴰ.head (λ k. (p k, sym q k))
      go (inr p) ih = Memᴰ.tail (ih (sym (lookup_past i e m p) ∙ h))

  -- INSERT

  pub insert_lookup : (i : ℕ) (e : ℕ × A) (m : List (ℕ × A)) → lookup i (insert e m) ≡ lookup i (e ∷ m)
  unfolding insert
  insert_lookup i e [] = refl
  insert_lookup i e (f ∷ m) = go (ltb e.0 f.0) (eqb e.0 f.0) refl (insert_lookup i e m)
    where
      both : (i ≡ e.0) ⊎ (i ≡ e.0 → ⊥) → (i ≡ f.0) ⊎ (i ≡ f.0 → ⊥) → (e.0 ≡ f.0 → ⊥) → lookup i (insert e m) ≡ lookup i (e ∷ m)
          → lookup i (f ∷ insert e m) ≡ lookup i (e ∷ f ∷ m)
      both (inl p) (inl q) n ih = absurd (n (sym p ∙ q))
      both (inl p) (inr q) n ih = cc (lookup_past i f (insert e m) q, lookup_here i e m p, lookup_here i e (f ∷ m) p)
      both (inr p) (inl q) n ih = cc (lookup_here i f (insert e m) q, lookup_past i e (f ∷ m) p, lookup_here i f m q)
      both (inr p) (inr q) n ih =
          cc (lookup_past i f (insert e m) q, lookup_past i e m p, lookup_past i e (f ∷ m) p, lookup_past i f m q)

      same : (i ≡ e.0) ⊎ (i ≡ e.0 → ⊥) → e.0 ≡ f.0 → lookup i (e ∷ m) ≡ lookup i (e ∷ f ∷ m)
      same (inl p) q = cc (lookup_here i e m p, lookup_here i e (f ∷ m) p)
      same (inr p) q =
          cc (lookup_past i e m p, lookup_past i e (f ∷ m) p, lookup_past i f m (λ r. p (r ∙ sym q)))

      go : (l b : Bool) → eqb e.0 f.0 ≡ b → lookup i (insert e m) ≡ lookup i (e ∷ m)
          → lookup i (cond l (e ∷ f ∷ m) (cond b (e ∷ m) (f ∷ insert e m))) ≡ lookup i (e ∷ f ∷ m)
      go true b q ih = refl
      go false true q ih = same (eq_or_not i e.0) (eqb-true e.0 f.0 q)
      go false false q ih = both (eq_or_not i e.0) (eq_or_not i f.0) (eqb-false e.0 f.0 q) ih

  pub insert_mem : (x e : ℕ × A) (m : List (ℕ × A)) → x ∈ insert e m → (x ≡ e) ⊎ (x ∈ m)
  unfolding insert
  insert_mem x e [] h = inl (Memᴰ.eq_of_singleton h)
  insert_mem x e (f ∷ m) h = go (ltb e.0 f.0) (eqb e.0 f.0) h (λ h'. insert_mem x e m h')
    where
      lift : (x ≡ e) ⊎ (x ∈ m) → (x ≡ e) ⊎ (x ∈ (f ∷ m))
      lift (inl p) = inl p
      lift (inr q) = inr (Memᴰ.tail q)

      go : (l b : Bool) → x ∈ cond l (e ∷ f ∷ m) (cond b (e ∷ m) (f ∷ insert e m)) → (x ∈ insert e m → (x ≡ e) ⊎ (x ∈ m))
          → (x ≡ e) ⊎ (x ∈ (f ∷ m))
      go true b h' ih = Memᴰ.cases_cons h'
      go false true h' ih = lift (Memᴰ.cases_cons h')
      go false false (Memᴰ.head p) ih = inr (Memᴰ.head p)
      go false false (Memᴰ.tail h') ih = lift (ih h')

  -- COLLECT

  -- what the last pair with the id has, or else d: a scan of the pairs
  unfoldable pub last_of : ℕ → Option A → List (ℕ × A) → Option A
  last_of i d [] = d
  last_of i d (e ∷ es) = last_of i (cond (eqb i e.0) (Some e.1) d) es

  pub insert_all_lookup : (i : ℕ) (m es : List (ℕ × A)) → lookup i (insert_all m es) ≡ last_of i (lookup i m) es
  unfolding insert_all last_of lookup
  insert_all_lookup i m [] = refl
  insert_all_lookup i m (e ∷ es) = insert_all_lookup i (insert e m) es ∙ ap (λ (o : Option A). last_of i o es) (insert_lookup i e m)

  -- the map made from pairs has the last pair of each id
  pub collect_lookup : (i : ℕ) (es : List (ℕ × A)) → lookup i (collect es) ≡ last_of i None es
  unfolding collect lookup
  collect_lookup i es = insert_all_lookup i [] es

  pub insert_all_mem : (x : ℕ × A) (m es : List (ℕ × A)) → x ∈ insert_all m es → (x ∈ m) ⊎ (x ∈ es)
  unfolding insert_all
  insert_all_mem x m [] h = inl h
  insert_all_mem x m (e ∷ es) h = go (insert_all_mem x (insert e m) es h)
    where
      place : (x ≡ e) ⊎ (x ∈ m) → (x ∈ m) ⊎ (x ∈ (e ∷ es))
      place (inl p) = inr (Memᴰ.head p)
      place (inr q) = inl q

      go : (x ∈ insert e m) ⊎ (x ∈ es) → (x ∈ m) ⊎ (x ∈ (e ∷ es))
      go (inl p) = place (insert_mem x e m p)
      go (inr q) = inr (Memᴰ.tail q)

  pub collect_mem : (x : ℕ × A) (es : List (ℕ × A)) → x ∈ collect es → x ∈ es
  unfolding collect
  collect_mem x es h = ⊎_elim (λ m. absurd (Memᴰ.not-nil m)) (λ m. m) (insert_all_mem x [] es h)

  -- the ids of pairs
  abbrev pub ids : List (ℕ × A) → List ℕ
  ids es = map (λ e. e.0) es

  pub last_of_absent : (i : ℕ) (d : Option A) (es : List (ℕ × A)) → (i ∈ ids es → ⊥) → last_of i d es ≡ d
  unfolding last_of
  last_of_absent i d [] n = refl
  last_of_absent i d (e ∷ es) n =
      rw (ne_eqb i e.0 (λ p. n (Memᴰ.head p))) (last_of_absent i d es (λ m. n (Memᴰ.tail m)))

  pub last_of_distinct : (i : ℕ) (v : A) (d : Option A) (es : List (ℕ × A)) → Distinct (ids es) → (i, v) ∈ es → last_of i d es ≡ Some v
  unfolding last_of
  last_of_distinct i v d [] h m = absurd (Memᴰ.not-nil m)
  last_of_distinct i v d (e ∷ es) h (Memᴰ.head p) =
      let q : i ≡ e.0 = ap (λ (x : ℕ × A). x.0) p in
      let r : v ≡ e.1 = ap (λ (x : ℕ × A). x.1) p in
      rw (eq-eqb i e.0 q)
      (last_of_absent i (Some e.1) es (λ m. h.0 (subst (λ (j : ℕ). j ∈ ids es) q m)) ∙ ap Some (sym r))
  last_of_distinct i v d (e ∷ es) h (Memᴰ.tail m) = last_of_distinct i v (cond (eqb i e.0) (Some e.1) d) es h.1 m
