-- `types::is_foreign` meets its contract: the masks judge as the table does.
use Rattle.std.proofs.Common.{ℕ, not, Option, sym, ap, ◌∙◌}
use Rattle.types.specs.CheckKeyType.{key_types_anywhere}
use Rattle.types.specs.Steps.{in_mask, with_bit, mask_of}
use Rattle.types.proofs.Masks.{by_masks, foreign_by_masks}
use Rattle.types.proofs.is_foreign.Goals as goal

pub returns-in-None : goal.returns-in-None
returns-in-None c =
    ap (λ (o : Option ℕ). by_masks o c.args.key_type) (sym c.in-None.is ∙ c.allowed.ensures) ∙ foreign_by_masks c.args.btree c.args.key_type

pub returns-in-Some : goal.returns-in-Some
unfolding mask_of with_bit in_mask key_types_anywhere
returns-in-Some c =
    ap not c.in_mask.ensures
    ∙ (ap (λ (o : Option ℕ). by_masks o c.args.key_type) (sym c.in-Some.is ∙ c.allowed.ensures) ∙ foreign_by_masks c.args.btree c.args.key_type)
