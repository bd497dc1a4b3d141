-- What the second `sort_pairs` left is sorted, as the searches require.
use Rattle.pairs.proofs.Order.{sorted_by}
use Rattle.pairs_run.proofs.main.Goals as goal

pub invariant_of-look_all-clause-sorted : goal.invariant_of-look_all-clause-sorted
invariant_of-look_all-clause-sorted c = sorted_by _ _ c.sort_pairs-2.ensures.n_after
