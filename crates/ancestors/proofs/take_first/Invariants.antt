-- The first places are filled from the ids after the first.
use Rattle.std.proofs.Common.{◌≡◌, drop}
use Rattle.ancestors.proofs.Shift.{filled}
use Rattle.ancestors.proofs.take_first.Given as goal

abbrev pub invariant-loop-i : goal.invariant-loop-i
invariant-loop-i l = l.ids ≡ filled (drop 1 l.fn.ids) l.fn.ids l.i
