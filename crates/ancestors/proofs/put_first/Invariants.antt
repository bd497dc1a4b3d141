-- The first places are filled from `id` and the array, and `before` is the next.
use Rattle.std.proofs.Common.{◌≡◌, ◌∷◌, get_or}
use Rattle.ancestors.proofs.Shift.{filled}
use Rattle.ancestors.proofs.put_first.Given as goal

abbrev pub invariant-loop-i : goal.invariant-loop-i
invariant-loop-i l = (l.ids ≡ filled (l.id ∷ l.fn.ids) l.fn.ids l.i) × (l.before ≡ get_or (l.id ∷ l.fn.ids) l.i 0)
