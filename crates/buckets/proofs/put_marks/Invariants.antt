-- The marks from the last to the first.
use Rattle.std.proofs.Common.{◌≡◌, ◌*◌, ◌≤◌, length}
use Prim.Native.Nat.{min}
use Rattle.buckets.specs.Steps.{used_from}
use Rattle.buckets.proofs.Marks.{MarkedFrom}
use Rattle.buckets.proofs.put_marks.Given as goal

abbrev pub invariant-loop-k : goal.invariant-loop-k
invariant-loop-k l = (l.k ≤ 257) × (length l.marks ≡ 514) × (l.u ≡ used_from l.book l.start l.count (min (l.k * 256) l.count)) × MarkedFrom l.book l.start l.count l.marks l.k
