-- By its tests.
use Rattle.std.proofs.Common.{◌∙◌, sym}
use Rattle.deletions.proofs.Snapshots.{set_snapshot, set_subvolume, set_accounted, set_none}
use Rattle.deletions.proofs.set_pair.Goals as goal

pub returns-then-is_live_snapshot : goal.returns-then-is_live_snapshot
returns-then-is_live_snapshot c = set_snapshot _ _ (sym c.is_live_snapshot.ensures.live ∙ c.if-is_live_snapshot.true) c.offset.ensures

pub returns-then-is_live_subvolume : goal.returns-then-is_live_subvolume
returns-then-is_live_subvolume c =
    let snapshot = sym c.is_live_snapshot.ensures.live ∙ c.if-is_live_snapshot.false in
    set_subvolume _ _ snapshot (sym c.is_live_subvolume.ensures ∙ c.if-is_live_subvolume.true) c.offset-then-is_live_subvolume.ensures

pub returns-then-is_accounted : goal.returns-then-is_accounted
returns-then-is_accounted c =
    let snapshot = sym c.is_live_snapshot.ensures.live ∙ c.if-is_live_snapshot.false in
    let subvolume = sym c.is_live_subvolume.ensures ∙ c.if-is_live_subvolume.false in
    set_accounted _ _ snapshot subvolume (sym c.is_accounted.ensures ∙ c.if-is_accounted.true) c.inode.ensures c.accounted_id.ensures

pub returns : goal.returns
returns c =
    let snapshot = sym c.is_live_snapshot.ensures.live ∙ c.if-is_live_snapshot.false in
    let subvolume = sym c.is_live_subvolume.ensures ∙ c.if-is_live_subvolume.false in
    set_none _ _ snapshot subvolume (sym c.is_accounted.ensures ∙ c.if-is_accounted.false)
