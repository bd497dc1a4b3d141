-- The pairs passed have the first word of pair i.
use Rattle.std.proofs.Common.{◌≡◌, ◌*◌, ◌≤◌, ◌<◌, ℕ, get_or}
use Rattle.claims.proofs.run_end.Given as goal

abbrev pub invariant-loop-end : goal.invariant-loop-end
invariant-loop-end l = (k : ℕ) → l.i ≤ k → k < l.end → get_or l.pairs.words.now (2 * k) 0 ≡ get_or l.pairs.words.now (2 * l.i) 0
