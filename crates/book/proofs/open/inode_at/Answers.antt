use Rattle.std.proofs.Common.{◌∙◌}
use Rattle.book.specs.Book.{key_head}
use Rattle.book.proofs.AtKey.{head_word}
use Rattle.book.proofs.open.inode_at.Goals as goal

pub returns : goal.returns
unfolding key_head
returns c = c.be64.ensures ∙ head_word c.args.book.now (λ j. (c.type_inv.book j).fits) c.args.at 8 8
