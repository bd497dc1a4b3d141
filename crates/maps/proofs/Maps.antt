-- Laws of maps: what a map made from pairs has for a number, and that maps which rise and have the same for every number are the same.
use Rattle.std.specs.Prelude.{None, Option, Some}
use Prim.Native.Nat.{ℕ, ◌≤◌, ◌<◌}
use mathlib.Core.Path.{◌≡◌, refl, sym, ap, ◌∙◌}
use mathlib.Core.Bool.{Bool, true, false, cond}
use mathlib.Core.List.{List, [], ◌∷◌, map}
use native.Mathlib.Omega.{arith}
use lib.Dec.{eqb}
use borrow.Author.Tests.{eq-eqb, ne_eqb, lt-ltb, le-ltb}
use Rattle.pairs.proofs.Order.{same_or_not, less_or_not}
use Rattle.book.specs.Maps.{lookup, insert, insert_all, collect}

module _ {A : Type 0} where
  -- the pair with the number is found, or what stands behind it
  pub lookup_here : (x : ℕ) (e : ℕ × A) (m : List (ℕ × A)) → x ≡ e.0 → lookup x (e ∷ m) ≡ Some e.1
  unfolding lookup
  lookup_here x e m h = rw (eq-eqb x e.0 h)

  pub lookup_past : (x : ℕ) (e : ℕ × A) (m : List (ℕ × A)) → (x ≡ e.0 → ⊥) → lookup x (e ∷ m) ≡ lookup x m
  unfolding lookup
  lookup_past x e m h = rw (ne_eqb x e.0 h)

  insert_lookup : (x : ℕ) (e : ℕ × A) (m : List (ℕ × A)) → lookup x (insert e m) ≡ lookup x (e ∷ m)
  unfolding insert
  insert_lookup x e [] = refl
  insert_lookup x e (f ∷ m) = less_or_not e.0 f.0
      (λ t. rw (lt-ltb e.0 f.0 t))
      (λ t. same_or_not e.0 f.0
      (λ s. rw (le-ltb e.0 f.0 t, eq-eqb e.0 f.0 s) (same_or_not x e.0
      (λ h. lookup_here x e m h ∙ sym (lookup_here x e (f ∷ m) h))
      (λ h. lookup_past x e m h ∙ sym (lookup_past x e (f ∷ m) h ∙ lookup_past x f m (λ r. h (r ∙ sym s))))))
      (λ s. rw (le-ltb e.0 f.0 t, ne_eqb e.0 f.0 s) (same_or_not x f.0
      (λ h. lookup_here x f (insert e m) h ∙ sym (lookup_past x e (f ∷ m) (λ r. s (sym r ∙ h)) ∙ lookup_here x f m h))
      (λ h. lookup_past x f (insert e m) h ∙ insert_lookup x e m ∙ same_or_not x e.0
      (λ r. lookup_here x e m r ∙ sym (lookup_here x e (f ∷ m) r))
      (λ r. lookup_past x e m r ∙ sym (lookup_past x e (f ∷ m) r ∙ lookup_past x f m h))))))

  -- the first where it is there, else the second
  unfoldable pub or_some : Option A → Option A → Option A
  or_some (Some x) other = Some x
  or_some None other = other

  -- what the last pair with the number has
  unfoldable pub last_for : ℕ → List (ℕ × A) → Option A
  last_for x [] = None
  last_for x (e ∷ es) = or_some (last_for x es) (cond (eqb x e.0) (Some e.1) None)

  some_assoc : (a b c : Option A) → or_some a (or_some b c) ≡ or_some (or_some a b) c
  unfolding or_some
  some_assoc (Some x) b c = refl
  some_assoc None b c = refl

  some_cond : (t : Bool) (a b : Option A) (x : A) → or_some a (cond t (Some x) b) ≡ or_some (or_some a (cond t (Some x) None)) b
  unfolding or_some
  some_cond true a b x = some_assoc a (Some x) b
  some_cond false a b x = some_assoc a None b

  inserted_lookup : (x : ℕ) (m es : List (ℕ × A)) → lookup x (insert_all m es) ≡ or_some (last_for x es) (lookup x m)
  unfolding insert_all last_for or_some lookup
  inserted_lookup x m [] = refl
  inserted_lookup x m (e ∷ es) =
      inserted_lookup x (insert e m) es ∙ ap (or_some (last_for x es)) (insert_lookup x e m) ∙ some_cond (eqb x e.0) (last_for x es) (lookup x m) e.1

  pub some_none : (a : Option A) → or_some a None ≡ a
  unfolding or_some
  some_none (Some x) = refl
  some_none None = refl

  -- the map made from pairs has the last pair of each number
  pub collect_lookup : (x : ℕ) (es : List (ℕ × A)) → lookup x (collect es) ≡ last_for x es
  unfolding collect lookup
  collect_lookup x es = inserted_lookup x [] es ∙ some_none (last_for x es)

  -- ---- maps that rise

  -- the first number of a map is above x
  unfoldable pub Above : ℕ → List (ℕ × A) → Type 0
  Above x [] = Unit {0}
  Above x (e ∷ m) = x < e.0

  -- the numbers of a map rise
  unfoldable pub Rises : List (ℕ × A) → Type 0
  Rises [] = Unit {0}
  Rises (e ∷ m) = Above e.0 m × Rises m

  above_insert : (x : ℕ) (e : ℕ × A) (m : List (ℕ × A)) → x < e.0 → Above x m → Above x (insert e m)
  unfolding Above insert
  above_insert x e [] h a = h
  above_insert x e (f ∷ m) h a = less_or_not e.0 f.0
      (λ t. rw (lt-ltb e.0 f.0 t) h)
      (λ t. same_or_not e.0 f.0 (λ s. rw (le-ltb e.0 f.0 t, eq-eqb e.0 f.0 s) h) (λ s. rw (le-ltb e.0 f.0 t, ne_eqb e.0 f.0 s) a))

  insert_rises : (e : ℕ × A) (m : List (ℕ × A)) → Rises m → Rises (insert e m)
  unfolding Rises Above insert
  insert_rises e [] r = (tt, tt)
  insert_rises e (f ∷ m) r = less_or_not e.0 f.0
      (λ t. rw (lt-ltb e.0 f.0 t) (t, r))
      (λ t. same_or_not e.0 f.0
      (λ s. rw (le-ltb e.0 f.0 t, eq-eqb e.0 f.0 s) (rw s r.0, r.1))
      (λ s. rw (le-ltb e.0 f.0 t, ne_eqb e.0 f.0 s) (above_insert f.0 e m (omega arith) r.0, insert_rises e m r.1)))

  inserted_rises : (m es : List (ℕ × A)) → Rises m → Rises (insert_all m es)
  unfolding insert_all
  inserted_rises m [] r = r
  inserted_rises m (e ∷ es) r = inserted_rises (insert e m) es (insert_rises e m r)

  -- a map made from pairs rises
  pub collect_rises : (es : List (ℕ × A)) → Rises (collect es)
  unfolding collect Rises
  collect_rises es = inserted_rises [] es tt

  -- a map that rises has nothing for what its numbers are above
  pub above_none : (x y : ℕ) (m : List (ℕ × A)) → y ≤ x → Above x m → Rises m → lookup y m ≡ None
  unfolding Above Rises lookup
  above_none x y [] h a r = refl
  above_none x y (e ∷ m) h a r = rw (ne_eqb y e.0 (λ s. absurd (omega arith))) (above_none e.0 y m (omega arith) r.0 r.1)

  unlike : {X : Type 0} (x : A) → None ≡ Some x → X
  unlike x e = let z : ◌≡◌ {A = ℕ} 0 1 = cc in absurd (omega arith)

  -- maps that rise and have the same for every number are the same
  pub rises_same : (m m' : List (ℕ × A)) → Rises m → Rises m' → ((x : ℕ) → lookup x m ≡ lookup x m') → m ≡ m'
  unfolding Rises Above lookup
  rises_same [] [] r r' h = refl
  rises_same [] (f ∷ m') r r' h = unlike f.1 (h f.0 ∙ lookup_here f.0 f m' refl)
  rises_same (e ∷ m) [] r r' h = unlike e.1 (sym (h e.0) ∙ lookup_here e.0 e m refl)
  rises_same (e ∷ m) (f ∷ m') r r' h = less_or_not e.0 f.0
      (λ t. unlike e.1 (sym (lookup_past e.0 f m' (λ s. absurd (omega arith)) ∙ above_none f.0 e.0 m' (omega arith) r'.0 r'.1) ∙ sym (h e.0) ∙ lookup_here e.0 e m refl))
      (λ t. same_or_not e.0 f.0
      (λ s.
      let v : e.1 ≡ f.1 = cc (lookup_here e.0 e m refl, h e.0, lookup_here e.0 f m' s) in
      let rest : m ≡ m' = rises_same m m' r.1 r'.1 (λ x. same_or_not x e.0
      (λ q. above_none e.0 x m (omega arith) r.0 r.1 ∙ sym (above_none f.0 x m' (omega arith) r'.0 r'.1))
      (λ q. sym (lookup_past x e m q) ∙ h x ∙ lookup_past x f m' (λ u. q (u ∙ sym s)))) in
      λ i. (s i, v i) ∷ rest i)
      (λ s. unlike f.1 (sym (lookup_past f.0 e m (λ u. s (sym u)) ∙ above_none e.0 f.0 m (omega arith) r.0 r.1) ∙ h f.0 ∙ lookup_here f.0 f m' refl)))

-- a map with what it has replaced
pub map_lookup : {A B : Type 0} (f : A → B) (g : Option A → Option B) → g None ≡ None → ((a : A) → g (Some a) ≡ Some (f a))
    → (x : ℕ) (m : List (ℕ × A)) → lookup x (map (λ e. (e.0, f e.1)) m) ≡ g (lookup x m)
unfolding lookup
map_lookup f g n s x [] = sym n
map_lookup f g n s x (e ∷ m) = same_or_not x e.0
    (λ h. rw (eq-eqb x e.0 h) (sym (s e.1)))
    (λ h. rw (ne_eqb x e.0 h) (map_lookup f g n s x m))

pub map_rises : {A B : Type 0} (f : A → B) (m : List (ℕ × A)) → Rises m → Rises (map (λ e. (e.0, f e.1)) m)
unfolding Rises Above
map_rises f [] r = tt
map_rises f (e ∷ []) r = (tt, tt)
map_rises f (e ∷ d ∷ m) r = (r.0, map_rises f (d ∷ m) r.1)
