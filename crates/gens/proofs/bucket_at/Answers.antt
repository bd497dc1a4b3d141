-- The bytes of the bucket as a big-endian number.
use Rattle.std.proofs.Common.{refl, sym, ◌∙◌}
use Rattle.book.specs.Book.{gens_table}
use Rattle.book.proofs.Tables.{first_be}
use Rattle.gens.proofs.bucket_at.Goals as goal

pub returns : goal.returns
returns c =
    let s = c.args.book.now in
    c.be64.ensures ∙ sym (first_be gens_table s (λ j. (c.type_inv.book j).fits) c.args.p 8 refl)
