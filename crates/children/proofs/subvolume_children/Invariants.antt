-- What a key gives.
use Rattle.children.specs.Steps.{child_pair}
use Rattle.children.proofs.subvolume_children.Given as goal

abbrev pub ghost-put_pairs : goal.ghost-put_pairs
ghost-put_pairs a = child_pair
