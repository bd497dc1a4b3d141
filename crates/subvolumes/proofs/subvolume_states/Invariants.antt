-- What a key gives.
use Rattle.subvolumes.specs.Steps.{state_pair}
use Rattle.subvolumes.proofs.subvolume_states.Given as goal

abbrev pub ghost-put_pairs : goal.ghost-put_pairs
ghost-put_pairs a = state_pair
