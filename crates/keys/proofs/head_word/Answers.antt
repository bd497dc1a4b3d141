-- The bytes are bits, the most significant first.
use Rattle.std.proofs.Common.{◌∙◌}
use Rattle.book.proofs.AtKey as at_key
use Rattle.keys.proofs.head_word.Goals as goal

pub returns : goal.returns
returns c = c.be32.ensures ∙ at_key.head_word c.args.book.now (λ j. (c.type_inv.book j).fits) c.args.at c.args.i 4
