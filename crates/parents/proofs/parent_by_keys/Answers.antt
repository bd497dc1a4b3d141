-- By the place that is found.
use Rattle.std.proofs.Common.{refl}
use Rattle.parents.proofs.Sources.{keys_found, keys_snapshot}
use Rattle.parents.proofs.parent_by_keys.Goals as goal

pub invariant_of-keys : goal.invariant_of-keys
invariant_of-keys c = record { small = c.requires.small; fit = c.requires.fit }

pub parent_at-requires : goal.parent_at-requires
parent_at-requires c = keys_snapshot c.requires c.args.id c.last_snapshot-place.ensures

pub returns : goal.returns
returns c = (keys_found c.args.id c.requires c.last_snapshot-place.ensures c.parent_at.ensures, refl)
