-- Word after word.
use Rattle.std.proofs.Common.{◌&&◌, take}
use lib.Dec.{eqb}
use Rattle.book.specs.Turns.{held}
use Rattle.pairs.proofs.Order.{both_true}
use Rattle.links.specs.SnapshotLinks.{bad_skip}
use Rattle.links.proofs.Words.{skip_by, skip_zero, skip_count}
use Rattle.links.proofs.count_skips.Goals as goal

pub returns-then-a-b : goal.returns-then-a-b
returns-then-a-b c =
    let a = c.args in
    let one = c.word-a in
    let two = c.word-b in
    let three = c.word-c in
    let ids = take a.len a.ids.now in
    let last = both_true (eqb one.result 0 && eqb two.result 0) (eqb three.result 0) c.if-a-b.true in
    let first = both_true (eqb one.result 0) (eqb two.result 0) last.0 in
    skip_count (bad_skip a.id ids) (held a.key) one.ensures two.ensures three.ensures
    (skip_zero a.id one.result ids first.0) (skip_zero a.id two.result ids first.1) (skip_zero a.id three.result ids last.1)

pub returns : goal.returns
returns c =
    let a = c.args in
    let one = c.word-a in
    let two = c.word-b in
    let three = c.word-c in
    let ids = take a.len a.ids.now in
    let above = c.contains-above.ensures in
    skip_count (bad_skip a.id ids) (held a.key) one.ensures two.ensures three.ensures
    (skip_by a.id one.result ids above.0 c.count_skip.ensures.counted) (skip_by a.id two.result ids above.1 c.count_skip-2.ensures.counted)
    (skip_by a.id three.result ids above.2 c.count_skip-3.ensures.counted)
