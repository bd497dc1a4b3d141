-- The runs that were passed are reported.
use Rattle.std.proofs.Common.{◌+◌, ◌-◌, ◌≤◌, drop}
use Rattle.walk.proofs.Passed.{Passed}
use Rattle.claims.specs.SnapshotClaims.{claim_findings}
use Rattle.claims.specs.Steps.{firsts}
use Rattle.claims.proofs.show_claims.Given as goal

abbrev pub invariant-loop-i : goal.invariant-loop-i
invariant-loop-i l = record {
  inside : l.i ≤ l.pairs.count;
  few : l.report.found ≤ l.fn.report.found + l.i;
  passed : Passed (claim_findings (firsts l.pairs.words.now l.pairs.count)) (claim_findings (drop l.i (firsts l.pairs.words.now l.pairs.count))) l.fn.report l.report;
}

abbrev pub decreases-loop-i : goal.decreases-loop-i
decreases-loop-i l = l.pairs.count - l.i
