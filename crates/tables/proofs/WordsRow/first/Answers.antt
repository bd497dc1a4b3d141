-- The word that was read is the first field.
use Rattle.tables.proofs.Found.{word_first}
use Rattle.tables.proofs.WordsRow.first.Goals as goal

pub returns : goal.returns
returns c = word_first c.args.book.now (λ j. (c.type_inv.book j).fits) _ _ c.be32.ensures
