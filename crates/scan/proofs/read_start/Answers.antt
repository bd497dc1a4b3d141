-- Seven steps of the cursor, each from where the one before ended.
use mathlib.Core.Path.{refl}
use Rattle.bits.proofs.Laws.{taken}
use Rattle.book.specs.Book.{header_of}
use Rattle.scan.proofs.read_start.Goals as goal

pub returns : goal.returns
unfolding header_of
returns c =
    let s = c.args.book.now in
    let layout = taken s 4 c.take-layout.ensures refl in
    let trees = taken s 1 c.take-trees.ensures layout.1 in
    let drawn = taken s 1 c.take-drawn.ensures trees.1 in
    let spare = taken s 10 c.take-spare.ensures drawn.1 in
    let version = taken s 16 c.take-version.ensures spare.1 in
    let bucket = taken s 16 c.take-first_bucket.ensures version.1 in
    let keys = taken s 16 c.take-keys.ensures bucket.1 in
    rw (layout.0, trees.0, drawn.0, spare.0, version.0, bucket.0, keys.0)
