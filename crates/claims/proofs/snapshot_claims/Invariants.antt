-- The pairs are those of claims.
use Rattle.claims.specs.Steps.{claim_pair}
use Rattle.claims.proofs.snapshot_claims.Given as goal

abbrev pub ghost-put_pairs : goal.ghost-put_pairs
ghost-put_pairs a = claim_pair
