-- By the mark.
use Rattle.std.proofs.Common.{◌+◌, ◌/◌, arith}
use Rattle.buckets.proofs.Marks.{mark_is}
use Rattle.buckets.proofs.used_from.Goals as goal

pub used_down-requires : goal.used_down-requires
used_down-requires c =
    let a = c.args in
    (omega arith, omega arith, omega arith, omega arith, mark_is a.book.now a.start a.count a.marks.now ((a.i + 255) / 256) c.requires.4 (omega arith) c.min.ensures)
