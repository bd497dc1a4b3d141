-- Laws of maps, by the places of their pairs.
use Rattle.std.specs.Prelude.{None, Some}
use Prim.Native.Nat.{ℕ, zero, suc, ◌≤◌, ◌<◌, zero-le, suc-le-suc}
use mathlib.Core.Path.{◌≡◌, refl, ap}
use mathlib.Core.List.{List, [], ◌∷◌}
use native.Mathlib.Nat.{not-suc-le-zero, le_of_suc-le-suc}
use lib.ListN.{length, get_or}
use borrow.Author.Tests.{eq-eqb, ne_eqb, lt-ltb, le-ltb}
use Rattle.book.specs.Maps.{lookup, lower_bound}

module _ {A : Type 0} (d : ℕ × A) where
  -- no pair has x
  pub lookup_none : (m : List (ℕ × A)) (x : ℕ) → ((k : ℕ) → k < length m → x ≡ (get_or m k d).0 → ⊥) → lookup x m ≡ None
  unfolding lookup
  lookup_none [] x h = refl
  lookup_none (e ∷ m) x h = rw (ne_eqb x e.0 (h 0 (suc-le-suc zero-le))) (lookup_none m x (λ k l. h (suc k) (suc-le-suc l)))

  -- the pair at k is the first that has x
  pub lookup_some : (m : List (ℕ × A)) (x k : ℕ) → k < length m → x ≡ (get_or m k d).0 → ((j : ℕ) → j < k → x ≡ (get_or m j d).0 → ⊥) →
      lookup x m ≡ Some (get_or m k d).1
  unfolding lookup
  lookup_some [] x k l e h = absurd (not-suc-le-zero l)
  lookup_some (f ∷ m) x zero l e h = rw (eq-eqb x f.0 e)
  lookup_some (f ∷ m) x (suc k) l e h =
      rw (ne_eqb x f.0 (h 0 (suc-le-suc zero-le))) (lookup_some m x k (le_of_suc-le-suc l) e (λ j i. h (suc j) (suc-le-suc i)))

  -- r pairs are below x, and the next is not
  pub lower_bound_at : (m : List (ℕ × A)) (x r : ℕ) → r ≤ length m → ((k : ℕ) → k < r → (get_or m k d).0 < x) → (r < length m → x ≤ (get_or m r d).0) →
      lower_bound x m ≡ r
  unfolding lower_bound
  lower_bound_at [] x zero i b a = refl
  lower_bound_at [] x (suc r) i b a = absurd (not-suc-le-zero i)
  lower_bound_at (e ∷ m) x zero i b a = rw (le-ltb e.0 x (a (suc-le-suc zero-le)))
  lower_bound_at (e ∷ m) x (suc r) i b a =
      rw (lt-ltb e.0 x (b 0 (suc-le-suc zero-le)))
      (ap suc (lower_bound_at m x r (le_of_suc-le-suc i) (λ k l. b (suc k) (suc-le-suc l)) (λ l. a (suc-le-suc l))))
