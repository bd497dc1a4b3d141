-- `ancestors_of` meets its contract. The invariant: the array begins with the `len` ids on the way to `at`, the rest of it is zeros, and no
-- root was passed. The measure is the room left. Of the hints it says nothing but that they are as many as before.
use borrow.Author.Rules.{rules}
use native.Mathlib.Omega.{arith}
use Prim.Native.Nat.{◌-◌, ◌≤◌}
use mathlib.Core.Path.{◌≡◌, refl}
use lib.ListN.{length}
use Rattle.book.specs.Book.{book_of}
use Rattle.book.specs.KeyMaps.{parents_of}
use Rattle.parents.specs.Sources.{reach_of}
use Rattle.ancestors.proofs.Walked.{Walked, walked_start, walked_more, walked_root, walked_absent, walked_full}
use Rattle.ancestors.proofs.ancestors_of.Statement.{statement}
use Rattle.ancestors.proofs.ancestors_of.Tie as tie

abbrev invariant_loop : tie.invariant-loop-p
invariant_loop book work source near id hints₀ ids₀ len₀ at₀ far below₀ from₀ hints ids len at below from =
    (from ≤ reach_of source) × Walked (parents_of (book_of book)) id ids len at × (length hints ≡ length hints₀)

abbrev decreases_loop : tie.decreases-loop-p
decreases_loop book work source near id hints₀ ids₀ len₀ at₀ far below₀ from₀ hints ids len at below from = 1024 - len

pub ancestors_of_spec : {M : Type 1} → statement M
ancestors_of_spec =
    tie.close
    (tie.spec
    invariant_loop
    decreases_loop
    (λ c κs. search rules)
    (λ c. (omega arith, walked_start _ _, refl))
    (λ c κs. search rules)
    (λ c κs. search rules)
    (λ c κs. search rules)
    (λ c. search rules)
    (λ c. search rules)
    (λ c. search rules)
    (λ c. search walked_absent)
    (λ c. search rules)
    (λ c. search rules)
    (λ c. search walked_root)
    (λ c. search rules)
    (λ c. search walked_full)
    (λ c. search rules)
    (λ c. search rules)
    (λ c. search rules)
    (λ c. search rules)
    (λ c. (omega arith, search walked_more, search rules)))
