-- The place of x is not before low.
use Rattle.std.proofs.Common.{◌<◌, ◌-◌}
use Rattle.search.specs.Bound.{Bracket}
use Rattle.search.proofs.window_up.Given as goal

abbrev pub invariant-loop-step : goal.invariant-loop-step
invariant-loop-step g l = record {
  some : 0 < l.step;
  place : Bracket (g.S.Ordered.number l.items) (g.S.Ordered.count l.items) (g.S.Ordered.target l.x) l.low (g.S.Ordered.count l.items);
}

abbrev pub decreases-loop-step : goal.decreases-loop-step
decreases-loop-step g l = l.count - l.low
