-- The entries from the last to the first.
use Rattle.std.proofs.Common.{◌≡◌, ◌≤◌}
use Rattle.buckets.specs.Steps.{used_from}
use Rattle.buckets.proofs.used_down.Given as goal

abbrev pub invariant-loop-i : goal.invariant-loop-i
invariant-loop-i l = (l.from ≤ l.i) × (l.i ≤ l.count) × (l.used ≡ used_from l.book l.start l.count l.i)
