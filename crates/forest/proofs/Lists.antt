-- Laws of membership, of `map`, `each` and `keep`.
use mathlib.Core.Bool.{Bool, true, false, cond}
use mathlib.Core.Logic.{◌⊎◌, inl, inr}
use mathlib.Core.List.Memᴰ
use mathlib.Core.List.{List, [], ◌∷◌, map}
use mathlib.Core.Path.{◌≡◌, refl, ap, ap₂, sym, subst, ◌∙◌}
use Prim.Native.Nat.{ℕ, suc}
use native.Mathlib.Omega.{arith}
use lib.ListN.{length}
use Rattle.forest.specs.Lists.{◌∈◌, Distinct}
use Rattle.findings.specs.Findings.{Finding, each, keep}

module _ {A B : Type 0} where
  pub map_mem : (f : A → B) (xs : List A) (y : B) → y ∈ map f xs → (x : A) × (x ∈ xs) × (y ≡ f x)
  map_mem f [] y m = absurd (Memᴰ.not-nil m)
  map_mem f (x ∷ xs) y (Memᴰ.head e) = (x, Memᴰ.head refl, e)
  map_mem f (x ∷ xs) y (Memᴰ.tail m) = let r = map_mem f xs y m in (r.0, Memᴰ.tail r.1, r.2)

  pub mem_map : (f : A → B) {x : A} {xs : List A} → x ∈ xs → f x ∈ map f xs
  mem_map f (Memᴰ.head e) = Memᴰ.head (ap f e)
  mem_map f (Memᴰ.tail m) = Memᴰ.tail (mem_map f m)

  pub map_same : (f g : A → B) (xs : List A) → ((x : A) → x ∈ xs → f x ≡ g x) → map f xs ≡ map g xs
  map_same f g [] h = refl
  map_same f g (x ∷ xs) h = ap₂ ◌∷◌ (h x (Memᴰ.head refl)) (map_same f g xs (λ y m. h y (Memᴰ.tail m)))

-- what is found at some item of a list
pub each_mem : {A : Type 0} (g : A → List Finding) (i : ℕ) (xs : List A) (y : Finding) → y ∈ each (λ _ x. g x) i xs → (x : A) × (x ∈ xs) × (y ∈ g x)
unfolding each
each_mem g i [] y m = absurd (Memᴰ.not-nil m)
each_mem {A} g i (x ∷ xs) y m = go (Memᴰ.append_cases (g x) m) (λ m'. each_mem g (suc i) xs y m')
  where
    go : (y ∈ g x) ⊎ (y ∈ each (λ _ x. g x) (suc i) xs) → (y ∈ each (λ _ x. g x) (suc i) xs → (z : A) × (z ∈ xs) × (y ∈ g z)) → (z : A) × (z ∈ (x ∷ xs)) × (y ∈ g z)
    go (inl h) ih = (x, Memᴰ.head refl, h)
    go (inr h) ih = let r = ih h in (r.0, Memᴰ.tail r.1, r.2)

pub mem_each : {A : Type 0} (g : A → List Finding) (i : ℕ) (xs : List A) (x : A) (y : Finding) → x ∈ xs → y ∈ g x → y ∈ each (λ _ x. g x) i xs
unfolding each
mem_each g i [] x y m h = absurd (Memᴰ.not-nil m)
mem_each {A} g i (z ∷ xs) x y (Memᴰ.head e) h = Memᴰ.append_left (each (λ _ x. g x) (suc i) xs) (subst (λ (w : A). y ∈ g w) e h)
mem_each g i (z ∷ xs) x y (Memᴰ.tail m) h = Memᴰ.append_right (g z) (mem_each g (suc i) xs x y m h)

module _ {A : Type 0} where
  -- two tests that say the same of every element
  pub keep_same : (p q : A → Bool) (xs : List A) → ((x : A) → x ∈ xs → p x ≡ q x) → keep p xs ≡ keep q xs
  unfolding keep
  keep_same p q [] h = refl
  keep_same p q (x ∷ xs) h =
      let rest = keep_same p q xs (λ y m. h y (Memᴰ.tail m)) in
      ap (λ (b : Bool). cond b (x ∷ keep p xs) (keep p xs)) (h x (Memᴰ.head refl)) ∙ ap (λ (l : List A). cond (q x) (x ∷ l) l) rest

  -- an element that passes the test is kept
  pub mem_keep : (p : A → Bool) (xs : List A) (x : A) → x ∈ xs → p x ≡ true → x ∈ keep p xs
  unfolding keep
  mem_keep p [] x m h = absurd (Memᴰ.not-nil m)
  mem_keep p (z ∷ xs) x (Memᴰ.head e) h = subst (λ (b : Bool). x ∈ cond b (z ∷ keep p xs) (keep p xs)) (sym h ∙ ap p e) (Memᴰ.head e)
  mem_keep p (z ∷ xs) x (Memᴰ.tail m) h = go (p z) (mem_keep p xs x m h)
    where
      go : (b : Bool) → x ∈ keep p xs → x ∈ cond b (z ∷ keep p xs) (keep p xs)
      go true k = Memᴰ.tail k
      go false k = k

  -- nothing is kept exactly if no element passes the test
  pub keep_none : (p : A → Bool) (xs : List A) → ((x : A) → x ∈ xs → p x ≡ false) → keep p xs ≡ []
  unfolding keep
  keep_none p [] h = refl
  keep_none p (x ∷ xs) h =
      ap (λ (b : Bool). cond b (x ∷ keep p xs) (keep p xs)) (h x (Memᴰ.head refl))
      ∙ keep_none p xs (λ y m. h y (Memᴰ.tail m))

  pub none_kept : (p : A → Bool) (xs : List A) → length (keep p xs) ≡ 0 → (x : A) → x ∈ xs → p x ≡ false
  unfolding keep
  none_kept p [] h x m = absurd (Memᴰ.not-nil m)
  none_kept p (z ∷ xs) h x m = go (p z) refl h m (λ h' m'. none_kept p xs h' x m')
    where
      go : (b : Bool) → p z ≡ b → length (cond b (z ∷ keep p xs) (keep p xs)) ≡ 0 → x ∈ (z ∷ xs)
          → (length (keep p xs) ≡ 0 → x ∈ xs → p x ≡ false) → p x ≡ false
      go true e h' m' ih = absurd (omega arith)
      go false e h' (Memᴰ.head q) ih = ap p q ∙ e
      go false e h' (Memᴰ.tail m') ih = ih h' m'

  -- two elements with the same key are equal where the keys are distinct
  pub distinct_same : (f : A → ℕ) (xs : List A) → Distinct (map f xs) → (x y : A) → x ∈ xs → y ∈ xs → f x ≡ f y → x ≡ y
  distinct_same f [] d x y m n e = absurd (Memᴰ.not-nil m)
  distinct_same f (z ∷ xs) d x y (Memᴰ.head p) (Memᴰ.head q) e = p ∙ sym q
  distinct_same f (z ∷ xs) d x y (Memᴰ.head p) (Memᴰ.tail n) e =
      absurd (d.0 (subst (λ (i : ℕ). i ∈ map f xs) (sym e ∙ ap f p) (mem_map f n)))
  distinct_same f (z ∷ xs) d x y (Memᴰ.tail m) (Memᴰ.head q) e =
      absurd (d.0 (subst (λ (i : ℕ). i ∈ map f xs) (e ∙ ap f q) (mem_map f m)))
  distinct_same f (z ∷ xs) d x y (Memᴰ.tail m) (Memᴰ.tail n) e = distinct_same f xs d.1 x y m n e
