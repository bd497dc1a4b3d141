-- The word that was read is the first field.
use Rattle.std.proofs.Common.{refl}
use Rattle.book.specs.Book.{alloc_table}
use Rattle.tables.proofs.Found.{bucket_first}
use Rattle.tables.proofs.AllocRow.first.Goals as goal

pub returns : goal.returns
returns c = bucket_first alloc_table c.args.book.now (λ j. (c.type_inv.book j).fits) _ _ refl c.be64.ensures
