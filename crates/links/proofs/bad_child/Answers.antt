-- By the parent of the child.
use Rattle.std.proofs.Common.{arith}
use Rattle.links.proofs.Words.{child_none, child_test}
use Rattle.links.proofs.Trees.{ready, ready_source}
use Rattle.links.proofs.bad_child.Goals as goal

pub returns-then-child-eq0 : goal.returns-then-child-eq0
returns-then-child-eq0 c = child_none _ _ _ c.if-child-eq0.true

pub parent_in-found-requires : goal.parent_in-found-requires
parent_in-found-requires c = (ready_source (ready c.args.links.now) c.source_of-source.ensures, omega (arith, c.reach-near.ensures))

pub returns : goal.returns
returns c = child_test _ _ _ c.if-child-eq0.false c.parent_in-found.ensures.0 c.is_the.ensures
