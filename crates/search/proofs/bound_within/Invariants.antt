-- The place of x is from base to base + size.
use Rattle.std.proofs.Common.{◌+◌, ◌≤◌}
use Rattle.search.proofs.Bracket.{Sized}
use Rattle.search.proofs.bound_within.Given as goal

abbrev pub invariant-loop-size : goal.invariant-loop-size
invariant-loop-size g l = record {
  within : l.base + l.size ≤ l.fn.window.high;
  place : Sized (g.S.Ordered.number l.items) (g.S.Ordered.count l.items) (g.S.Ordered.target l.x) l.base l.size;
}

abbrev pub decreases-loop-size : goal.decreases-loop-size
decreases-loop-size g l = l.size
