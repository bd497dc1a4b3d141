-- By the pass where it tells, and link by link.
use Rattle.parents.proofs.Sources.{by_keys}
use Rattle.climb.proofs.root_above.Goals as goal

pub invariant_of-keys : goal.invariant_of-keys
invariant_of-keys c = let b = by_keys _ _ c.requires c.in-Keys.is in record { small = b.small; fit = b.fit }

pub climb_keys-requires : goal.climb_keys-requires
climb_keys-requires c = by_keys _ _ c.requires c.in-Keys.is
