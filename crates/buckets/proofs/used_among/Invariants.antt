-- The entries from the last to the first.
use Rattle.std.proofs.Common.{◌≡◌, ◌+◌, ◌≤◌}
use Rattle.buckets.specs.Steps.{used_of}
use Rattle.buckets.proofs.Runs.{from}
use Rattle.buckets.proofs.used_among.Given as goal

abbrev pub invariant-loop-i : goal.invariant-loop-i
invariant-loop-i l = (l.u.count + l.i ≤ l.count) × (l.u ≡ used_of l.none (from l.book l.none l.start l.count l.i))
