-- The bytes of an entry as big-endian numbers.
use Rattle.std.proofs.Common.{◌+◌, refl, sym, ◌∙◌}
use Rattle.bits.proofs.Laws.{be_one}
use Rattle.book.specs.Book.{gens_table}
use Rattle.book.proofs.Tables.{rest_be}
use Rattle.gens.proofs.entry_at.Goals as goal

pub returns : goal.returns
returns c =
    let s = c.args.book.now in
    let p = c.args.p in (
      c.bucket_at.ensures,
      sym (be_one s (p + 8)) ∙ sym (rest_be gens_table s (λ j. (c.type_inv.book j).fits) p 8 refl 1 refl),
    )
