-- The fields of the first 8 bytes, two words, and the four counts.
use mathlib.Core.Path.{sym, ◌∙◌}
use Rattle.bits.proofs.Laws.{bits_be}
use Rattle.book.specs.Book.{header_of}
use Rattle.scan.proofs.read_header.Goals as goal

pub returns : goal.returns
unfolding header_of
returns c =
    let s = c.args.book.now in
    let device = c.be64-device.ensures ∙ sym (bits_be s (λ j. (c.type_inv.book j).fits) 8 8) in
    let buckets = c.be64-buckets.ensures ∙ sym (bits_be s (λ j. (c.type_inv.book j).fits) 16 8) in
    rw (c.read_start-start.ensures, c.read_counts-counts.ensures, device, buckets)
