-- Key after key.
use Rattle.std.proofs.Common.{arith}
use Rattle.pairs.specs.Pairs.{pairs_of}
use Rattle.book.proofs.Walk.{few_keys}
use Rattle.walk.proofs.Visits.{begin_keys, visit_first, visit_key, visit_last}
use Rattle.subvolumes.specs.Steps.{judged}
use Rattle.subvolumes.proofs.show_subvolumes.Goals as goal

pub loop-key-init : goal.loop-key-init
loop-key-init c =
    let k = c.keys-key-items in
    let a = c.args.states.now in
    let of = judged a.book.bytes.now (pairs_of a.pairs.words.now a.pairs.count) in
    rw c.into_iter-key-iterator.ensures.into_iter_gives
    (record { visited = visit_first of (begin_keys of a.book k.result k.ensures.bytes k.ensures.all); few = omega (arith, k.ensures.all) })

pub show_subvolume-requires : goal.show_subvolume-requires
show_subvolume-requires c = omega (arith, c.requires, few_keys c.args.states.now.book.opened, c.loop-key.invariant.few)

pub loop-key-preserved : goal.loop-key-preserved
loop-key-preserved c =
    let g = c.in-Some.ensures.steps in
    let a = c.args.states.now in
    let i = c.loop-key.invariant in
    record {
      visited = visit_key (judged a.book.bytes.now (pairs_of a.pairs.words.now a.pairs.count)) c.loop-key.key-iterator c.next.new.self c.in-Some.key g i.visited c.show_subvolume.ensures.reports;
      few = omega (arith, g, c.show_subvolume.ensures.few, few_keys a.book.opened, a.few, i.few);
    }

pub returns-clause-reports : goal.returns-clause-reports
returns-clause-reports c = visit_last c.loop-key.invariant.visited c.in-None.ensures.steps
