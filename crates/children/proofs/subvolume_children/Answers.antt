-- The pairs of the keys, sorted, are what is looked up.
use Rattle.pairs.proofs.Order.{sorted_by}
use Rattle.children.proofs.subvolume_children.Goals as goal

pub new-pairs-requires-clause-sorted : goal.new-pairs-requires-clause-sorted
new-pairs-requires-clause-sorted c = sorted_by _ _ c.sort_pairs.ensures.n_after
