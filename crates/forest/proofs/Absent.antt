-- What it means for each rule of `snapshot_links` that it reports no forest kind.
use Rattle.std.specs.Prelude.{None, Option, Some}
use mathlib.Core.Bool.{Bool, true, false, true≢false, not, ◌&&◌, ◌||◌}
use mathlib.Core.Logic.{◌⊎◌, inl, inr, ⊎_elim, ◌↔◌}
use mathlib.Core.List.Memᴰ
use mathlib.Core.List.{List, [], ◌∷◌, ◌++◌}
use Rattle.std.proofs.lemmas.Option.{same_Some}
use mathlib.Core.Path.{◌≡◌, refl, ap, sym, subst, ◌∙◌}
use Prim.Native.Nat.{ℕ}
use native.Mathlib.Omega.{arith}
use lib.Dec.{eqb}
use lib.ListN.{length}
use borrow.Author.Tests.{eqb-true, eqb-false, eq-eqb, not-false}
use Rattle.forest.specs.Lists.{◌∈◌}
use Rattle.findings.specs.Findings.{Finding, finding, when, each, keep}
use Rattle.pairs.specs.Pairs.{has}
use Rattle.links.specs.SnapshotLinks.{is_the, names_root, wrong_depth}
use Rattle.forest.specs.Forest.{forest_kinds, Absent}
use Rattle.forest.proofs.Lists.{each_mem, mem_each, keep_none, none_kept}

-- TESTS

pub and_false : (a c : Bool) → a && c ≡ false → (a ≡ false) ⊎ (c ≡ false)
and_false true c e = inr e
and_false false c e = inl refl

pub has_true : (i : ℕ) (xs : List ℕ) → i ∈ xs → has i xs ≡ true
unfolding has
has_true i [] m = absurd (Memᴰ.not-nil m)
has_true i (x ∷ xs) (Memᴰ.head e) = rw (eq-eqb i x e)
has_true i (x ∷ xs) (Memᴰ.tail m) = go (eqb i x) (has_true i xs m)
  where
    go : (c : Bool) → has i xs ≡ true → c || has i xs ≡ true
    go true e = refl
    go false e = e

pub true_has : (i : ℕ) (xs : List ℕ) → has i xs ≡ true → i ∈ xs
unfolding has
true_has i [] e = absurd (true≢false (sym e))
true_has i (x ∷ xs) e = go (eqb i x) refl e (λ e'. true_has i xs e')
  where
    go : (c : Bool) → eqb i x ≡ c → c || has i xs ≡ true → (has i xs ≡ true → i ∈ xs) → i ∈ (x ∷ xs)
    go true q e' ih = Memᴰ.head (eqb-true i x q)
    go false q e' ih = Memᴰ.tail (ih e')

-- ABSENT KINDS

-- a kind that the test does not find among the forest kinds
pub not_forest : (k : ℕ) → has k forest_kinds ≡ false → k ∈ forest_kinds → ⊥
not_forest k e m = true≢false (sym (has_true k forest_kinds m) ∙ e)

-- findings of kinds that the test does not find: for the lists of the other rules
pub absent_kinds : (xs : List Finding) → ((f : Finding) → f ∈ xs → has f.kind forest_kinds ≡ false) → Absent xs
absent_kinds xs h f m k = not_forest f.kind (h f m) k

pub absent_append : (xs ys : List Finding) → Absent (xs ++ ys) ↔ (Absent xs × Absent ys)
absent_append xs ys = (
  (λ h. ((λ f m. h f (Memᴰ.append_left ys m)), (λ f m. h f (Memᴰ.append_right xs m)))),
  (λ h f m. ⊎_elim (h.0 f) (h.1 f) (Memᴰ.append_cases xs m)),
)

pub absent_each : {A : Type 0} (g : A → List Finding) (i : ℕ) (xs : List A) → Absent (each (λ _ x. g x) i xs) ↔ ((x : A) → x ∈ xs → Absent (g x))
absent_each g i xs = (
  (λ h x m f n. h f (mem_each g i xs x f m n)),
  (λ h f n. let r = each_mem g i xs f n in h r.0 r.1 f r.2),
)

-- a finding of a forest kind is absent exactly if the test fails
pub absent_when : (c : Bool) (kind s o : ℕ) → kind ∈ forest_kinds → Absent (when c (finding kind s o)) ↔ (c ≡ false)
unfolding when
absent_when true kind s o k = ((λ h. absurd (h _ (Memᴰ.head refl) k)), (λ e. absurd (true≢false e)))
absent_when false kind s o k = ((λ h. refl), (λ e f m. absurd (Memᴰ.not-nil m)))

-- a finding of another kind is no matter
pub absent_other : (c : Bool) (kind s o : ℕ) → has kind forest_kinds ≡ false → Absent (when c (finding kind s o))
unfolding when
absent_other true kind s o k f (Memᴰ.head e) n = not_forest kind k (subst (λ (g : Finding). g.kind ∈ forest_kinds) e n)
absent_other true kind s o k f (Memᴰ.tail m) n = Memᴰ.not-nil m
absent_other false kind s o k f m n = Memᴰ.not-nil m

-- THE TESTS OF THE RULES

pub is_some : (x : ℕ) (o : Option ℕ) → is_the x o ≡ true ↔ o ≡ Some x
unfolding is_the
is_some x None = ((λ e. absurd (true≢false (sym e))), (λ e. let z : ◌≡◌ {A = ℕ} 0 1 = cc in absurd (omega arith)))
is_some x (Some y) = ((λ e. ap Some (eqb-true y x e)), (λ e. eq-eqb y x (same_Some y x e)))

pub no_root : (t : Option (ℕ × ℕ)) → names_root t None ≡ false
unfolding names_root
no_root None = refl
no_root (Some x) = refl

pub names_root_lem : (t r : Option (ℕ × ℕ)) → names_root t r ≡ true → (x : ℕ × ℕ) × (y : ℕ × ℕ) × (t ≡ Some x) × (r ≡ Some y) × (x.1 ≡ y.0)
unfolding names_root
names_root_lem None r e = absurd (true≢false (sym e))
names_root_lem (Some x) None e = absurd (true≢false (sym e))
names_root_lem (Some x) (Some y) e = (x, y, refl, refl, eqb-true x.1 y.0 e)

pub depth_right : (y : ℕ × ℕ) (d : ℕ) → wrong_depth d (Some y) ≡ false ↔ d ≡ y.1
unfolding wrong_depth
depth_right y d = ((λ e. eqb-true d y.1 (not-false (eqb d y.1) e)), (λ e. ap not (eq-eqb d y.1 e)))

-- a word that is bad unless it is 0 or passes a test
pub zero_or : (w : ℕ) (c : Bool) → not (eqb w 0) && not c ≡ false ↔ ((w ≡ 0 → ⊥) → c ≡ true)
zero_or w c = ((λ e n. there (and_false (not (eqb w 0)) (not c) e) n), (λ h. back (eqb w 0) c refl h))
  where
    there : (not (eqb w 0) ≡ false) ⊎ (not c ≡ false) → (w ≡ 0 → ⊥) → c ≡ true
    there (inl e) n = absurd (n (eqb-true w 0 (not-false (eqb w 0) e)))
    there (inr e) n = not-false c e

    back : (a d : Bool) → eqb w 0 ≡ a → ((w ≡ 0 → ⊥) → d ≡ true) → not a && not d ≡ false
    back true d e h = refl
    back false true e h = refl
    back false false e h = sym (h (eqb-false w 0 e))

-- no word of a list passes the test exactly if their number is not reported
pub none_bad : (p : ℕ → Bool) (ws : List ℕ) → not (eqb (length (keep p ws)) 0) ≡ false ↔ ((w : ℕ) → w ∈ ws → p w ≡ false)
none_bad p ws = (
  (λ e. none_kept p ws (eqb-true _ 0 (not-false _ e))),
  (λ h. ap not (eq-eqb _ 0 (ap length (keep_none p ws h)))),
)
