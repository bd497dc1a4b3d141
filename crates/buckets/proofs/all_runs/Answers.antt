-- Nothing is said of one word as marks.
use Rattle.std.proofs.Common.{rules}
use Rattle.buckets.proofs.Marks.{marks_few}
use Rattle.buckets.proofs.all_runs.Goals as goal

pub invariant_of-runs : goal.invariant_of-runs
invariant_of-runs c = record { marked = marks_few _ _ _ _ (search rules) }
