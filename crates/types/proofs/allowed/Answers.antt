-- `types::allowed` meets its contract: the rows stand in the order of the btrees.
use Rattle.std.proofs.Common.{◌∙◌}
use Rattle.types.specs.CheckKeyType.{key_types_allowed}
use Rattle.types.specs.Steps.{in_mask, with_bit, mask_of}
use Rattle.types.proofs.Masks.{masks, mask_got}
use Rattle.types.proofs.allowed.Goals as goal

pub returns : goal.returns
unfolding masks mask_of with_bit in_mask key_types_allowed
returns c = c.copied.ensures ∙ mask_got c.args.btree c.get.result c.get.ensures.lookup.0 c.get.ensures.lookup.1
