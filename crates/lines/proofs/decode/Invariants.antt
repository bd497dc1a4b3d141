-- The bytes decoded, and then the rest as it was.
use Rattle.std.proofs.Common.{◌≡◌, ◌++◌, length, drop}
use Rattle.lines.specs.Lines.{decoded}
use Rattle.lines.proofs.decode.Given as goal

abbrev pub invariant-loop-i : goal.invariant-loop-i
invariant-loop-i l = (length l.bytes ≡ length l.initial.bytes) × (l.bytes ≡ decoded l.digits l.i ++ drop l.i l.initial.bytes)
