-- By the place that is found.
use Rattle.std.proofs.Common.{arith, sym, subst, ◌*◌}
use Rattle.std.proofs.lemmas.List.{length-take-le}
use Rattle.pairs.specs.Pairs.{Sorted}
use Rattle.parents.proofs.Sources.{pairs_found, pairs_sorted, pairs_snapshot, pairs_taken}
use Rattle.parents.proofs.parent_by_pairs.Goals as goal

pub new-pairs-requires : goal.new-pairs-requires
new-pairs-requires c =
    let n = c.args.n in
    record {
      inside = omega (arith, length-take-le (2 * n) c.args.work.now c.requires.0.room);
      sorted = subst Sorted (sym (pairs_taken c.args.work.now (2 * n) n (omega arith))) (pairs_sorted c.requires.0);
    }

pub parent_at-requires : goal.parent_at-requires
parent_at-requires c =
    let n = c.args.n in
    let e = c.new-pairs.ensures in
    pairs_snapshot c.requires.0 c.args.id (rw (e.0, e.1, pairs_taken c.args.work.now (2 * n) n (omega arith)) at c.find_snapshot-found.ensures.place)

pub returns : goal.returns
returns c =
    let n = c.args.n in
    let e = c.new-pairs.ensures in
    let found = c.find_snapshot-found.ensures in
    let place = (rw (e.0, e.1, pairs_taken c.args.work.now (2 * n) n (omega arith)) at found.place) in
    (pairs_found c.args.id c.requires.0 place c.parent_at.ensures, omega (arith, found.at, e.1))
