-- Key after key.
use Rattle.std.proofs.Common.{arith}
use Rattle.walk.proofs.Visits.{begin_keys, visit_first, visit_key, visit_last}
use Rattle.snapshots.specs.SnapshotSubvolFlags.{flag_findings, snapshot_subvol_flags}
use Rattle.snapshots.proofs.snapshot_subvol_flags.Goals as goal

pub loop-key-init : goal.loop-key-init
unfolding snapshot_subvol_flags
loop-key-init c =
    let k = c.keys-key-items in
    rw c.into_iter-key-iterator.ensures.into_iter_gives
    (record { visited = visit_first flag_findings (begin_keys flag_findings c.args.book k.result k.ensures.bytes k.ensures.all); few = omega (arith, k.ensures.all) })

pub loop-key-preserved : goal.loop-key-preserved
loop-key-preserved c =
    let g = c.in-Some.ensures.steps in
    record {
      visited = visit_key flag_findings c.loop-key.key-iterator c.next.new.self c.in-Some.key g c.loop-key.invariant.visited c.show_flag.ensures.reports;
      few = omega (arith, g, c.show_flag.ensures.few, c.loop-key.invariant.few);
    }

pub returns-clause-reports : goal.returns-clause-reports
returns-clause-reports c = visit_last c.loop-key.invariant.visited c.in-None.ensures.steps
