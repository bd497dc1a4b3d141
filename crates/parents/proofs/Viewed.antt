-- What `view` says of its result, and what follows: what holds of the slice and the numbers holds of the view's, and the other way.
use Prim.Native.Nat.{ℕ}
use mathlib.Core.Path.{◌≡◌}
use mathlib.Core.List.{List}
use denote.Ref.{Bor}
use Rattle.parents.specs.declared.Parents.{Parents}

abbrev pub Viewed : Bor (List ℕ) → ℕ → ℕ → Parents → Type 0
Viewed s a b r = (r.book ≡ s) × (r.start ≡ a) × (r.count ≡ b)

module _ (P : Bor (List ℕ) → ℕ → ℕ → Type 0) {s : Bor (List ℕ)} {a b : ℕ} {r : Parents} (e : Viewed s a b r) where
  pub view_has : P s a b → P r.book r.start r.count
  view_has h = rw (e.0, e.1, e.2) h

  pub view_gives : P r.book r.start r.count → P s a b
  view_gives h = rw (e.0, e.1, e.2) at h
