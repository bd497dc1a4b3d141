-- Which of the three are among the first ids is found.
use Rattle.std.proofs.Common.{◌≡◌, take}
use Rattle.pairs.specs.Pairs.{has}
use Rattle.ancestors.proofs.contains.Given as goal

abbrev pub invariant-loop-i : goal.invariant-loop-i
invariant-loop-i l = (l.found.a ≡ has l.a (take l.i l.ids)) × (l.found.b ≡ has l.b (take l.i l.ids)) × (l.found.c ≡ has l.c (take l.i l.ids))
