-- Link after link.
use Rattle.std.proofs.Common.{arith}
use Rattle.parents.proofs.Climb.{climbing_start, climbing_more, climbed_root, climbed_absent}
use Rattle.parents.proofs.root_of.Goals as goal

pub loop-links-init : goal.loop-links-init
loop-links-init c = (omega (arith, c.reach-near.ensures), climbing_start _ _)

pub returns-in_err-parent : goal.returns-in_err-parent
returns-in_err-parent c =
    let none = climbed_absent (c.loop-links.invariant.1.way (omega arith)) c.parent_in-found.ensures.0 c.in_err-parent.was in
    let e = c.from_residual.ensures in
    cc

pub returns-then-parent-eq0 : goal.returns-then-parent-eq0
returns-then-parent-eq0 c = climbed_root (c.loop-links.invariant.1.way (omega arith)) c.parent_in-found.ensures.0 c.in_ok-parent.was c.if-parent-eq0.true

pub loop-links-preserved : goal.loop-links-preserved
loop-links-preserved c =
    (c.parent_in-found.ensures.1, climbing_more c.loop-links.invariant.1 (omega arith) c.parent_in-found.ensures.0 c.in_ok-parent.was c.if-parent-eq0.false)
