-- Each turn goes on by a byte that is no newline.
use Prim.Native.Nat.{◌-◌, ◌≤◌}
use mathlib.Core.Path.{◌≡◌}
use lib.ListN.{length, take, drop}
use Rattle.lines.specs.Lines.{line_length}
use Rattle.lines.proofs.read_line.Given as goal

abbrev pub invariant-loop-n : goal.invariant-loop-n
invariant-loop-n l = (l.n ≤ length l.line) × (length l.line ≡ length l.initial.line) × (line_length (take l.n l.line) ≡ l.n) × (drop l.n l.line ≡ drop l.n l.initial.line)

abbrev pub decreases-loop-n : goal.decreases-loop-n
decreases-loop-n l = length l.line - l.n
