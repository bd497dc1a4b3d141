-- Four steps of the cursor, each from where the one before ended.
use mathlib.Core.Path.{refl}
use Rattle.bits.proofs.Laws.{taken}
use Rattle.book.specs.Book.{header_of}
use Rattle.scan.proofs.read_counts.Goals as goal

pub returns : goal.returns
unfolding header_of
returns c =
    let s = c.args.book.now in
    let parents = taken s 16 c.take-parents.ensures refl in
    let subvolumes = taken s 16 c.take-subvolumes.ensures parents.1 in
    let gens = taken s 16 c.take-gens.ensures subvolumes.1 in
    let alloc = taken s 16 c.take-alloc.ensures gens.1 in
    rw (parents.0, subvolumes.0, gens.0, alloc.0)
