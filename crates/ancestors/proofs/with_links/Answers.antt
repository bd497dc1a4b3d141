-- With a root and without.
use Rattle.std.proofs.Common.{rules}
use Rattle.ancestors.specs.Steps.{with_links}
use Rattle.ancestors.proofs.with_links.Goals as goal

pub returns-in_err-root : goal.returns-in_err-root
unfolding with_links
returns-in_err-root c = let none = c.in_err-root.was in rw none (search rules)

pub returns : goal.returns
unfolding with_links
returns c = rw c.in_ok-root.was
