-- `types::in_mask` meets its contract: beyond the last bit, and by computing.
use Rattle.std.proofs.Common.{refl, arith}
use Rattle.types.specs.Steps.{in_mask}
use Rattle.types.proofs.Masks.{beyond_bits}
use Rattle.types.proofs.in_mask.Goals as goal

pub returns-then-key_type-gt-LAST_BIT : goal.returns-then-key_type-gt-LAST_BIT
returns-then-key_type-gt-LAST_BIT c = beyond_bits c.args.mask c.args.key_type (omega arith) c.if-key_type-gt-LAST_BIT.true

pub returns : goal.returns
unfolding in_mask
returns c = refl
