-- Membership of lists.
use mathlib.Core.List.{List, [], ◌∷◌, Memᴰ}

-- `x ∈ xs`: x is an element of xs
infix 40 ◌∈◌
abbrev pub ◌∈◌ : {A : Type 0} → A → List A → Type 0
x ∈ xs = Memᴰ x xs

-- no element stands twice
abbrev pub Distinct : {A : Type 0} → List A → Type 0
Distinct [] = Unit {0}
Distinct (x ∷ xs) = (x ∈ xs → ⊥) × Distinct xs
