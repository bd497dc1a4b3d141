-- The pairs of the claims, sorted, have their runs.
use Rattle.std.proofs.Common.{◌∙◌, ap, arith}
use Rattle.findings.proofs.Reports.{reports_as}
use Rattle.pairs.specs.Pairs.{sort}
use Rattle.pairs.proofs.Order.{sorted_by}
use Rattle.book.specs.Book.{keys_from}
use Rattle.book.proofs.Walk.{parts, few_keys}
use Rattle.claims.specs.SnapshotClaims.{claimed, snapshot_claims}
use Rattle.claims.proofs.Claims.{claims_paired}
use Rattle.claims.proofs.Counts.{sorted_findings}
use Rattle.claims.proofs.snapshot_claims.Goals as goal

pub new-requires-clause-sorted : goal.new-requires-clause-sorted
new-requires-clause-sorted c = sorted_by _ _ c.sort_pairs.ensures.n_after

pub show_claims-requires : goal.show_claims-requires
show_claims-requires c = omega (arith, c.new.ensures, c.put_pairs-count.ensures.few, few_keys c.args.book.opened, c.requires.found)

pub returns-clause-reports : goal.returns-clause-reports
unfolding snapshot_claims
returns-clause-reports c =
    let b = c.args.book in
    let s = b.bytes.now in
    let e = c.new.ensures in
    let sorted = c.sort_pairs.ensures.n_after ∙ ap sort (c.put_pairs-count.ensures.put ∙ claims_paired s b.header.keys b.places.keys) in
    let claimed_by = claimed (keys_from s b.header.keys b.places.keys) in
    reports_as (rw ((parts b.opened).keys, e.0, e.1) (sorted_findings claimed_by _ _ sorted)) c.show_claims.ensures.reports
