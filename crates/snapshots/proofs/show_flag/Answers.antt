-- By its test.
use Rattle.std.proofs.Common.{◌≡◌, refl, sym, ◌∙◌, Bool, true, false, cond, not}
use mathlib.Core.Bool.{beq}
use Rattle.findings.specs.Findings.{only}
use Rattle.findings.proofs.Reports.{reports_as, reports_nil}
use Rattle.snapshots.specs.SnapshotSubvolFlags.{flagged, flag_is_wrong, flag_findings}
use Rattle.snapshots.proofs.show_flag.Goals as goal

-- a test equals another where both hold or neither does
same : (a b : Bool) → beq a b ≡ cond a b (not b)
same true true = refl
same true false = refl
same false true = refl
same false false = refl

pub returns-then-holds-clause-reports : goal.returns-then-holds-clause-reports
unfolding flag_findings flag_is_wrong flagged only
returns-then-holds-clause-reports c =
    let e = sym c.holds.ensures.holds ∙ c.if-holds.true in
    reports_as (rw (same, e, c.word.ensures, c.word-subvolume.ensures, c.offset.ensures)) c.emit_if.ensures.reports

pub returns-else-holds-clause-reports : goal.returns-else-holds-clause-reports
unfolding flag_findings only
returns-else-holds-clause-reports c = let e = sym c.holds.ensures.holds ∙ c.if-holds.false in reports_nil (rw e)
