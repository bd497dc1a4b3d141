-- By its test.
use Rattle.findings.proofs.Reports.{reports_as}
use Rattle.deletions.specs.SnapshotStates.{snap_state}
use Rattle.deletions.specs.Steps.{has_data}
use Rattle.deletions.proofs.show_has_data.Goals as goal

pub returns-clause-reports : goal.returns-clause-reports
unfolding has_data snap_state
returns-clause-reports c = reports_as (rw (c.has-data.ensures, c.word-state.ensures, c.offset-id.ensures)) c.emit_if.ensures.reports
