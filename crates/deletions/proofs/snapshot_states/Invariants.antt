-- What a key gives.
use Rattle.deletions.specs.Steps.{set_pair}
use Rattle.deletions.proofs.snapshot_states.Given as goal

abbrev pub ghost-put_pairs : goal.ghost-put_pairs
ghost-put_pairs a = set_pair
