-- Key after key.
use Rattle.std.proofs.Common.{arith}
use Rattle.book.specs.Book.{book_of}
use Rattle.walk.proofs.Puts.{put_first, put_key, put_last, begin_gather}
use Rattle.walk.proofs.Visits.{begin_keys, visit_first, visit_key, visit_last}
use Rattle.gens.specs.Steps.{key_gens, cover_pair}
use Rattle.gens.proofs.take_keys.Goals as goal

pub loop-key-init : goal.loop-key-init
loop-key-init c =
    let k = c.keys-key-items in
    let b = c.args.book in
    let of = key_gens b.header.device (book_of b.bytes.now).gens in
    rw c.into_iter-key-iterator.ensures.into_iter_gives
    (record {
      visited = visit_first of (begin_keys of b k.result k.ensures.bytes k.ensures.all);
      put = put_first (cover_pair b.header.device) k.result c.args.work.now (begin_gather (cover_pair b.header.device) b k.result k.ensures.bytes k.ensures.all);
      few = omega (arith, k.ensures.all);
      pairs = omega (arith, k.ensures.all);
    })

pub loop-key-preserved : goal.loop-key-preserved
loop-key-preserved c =
    let g = c.in-Some.ensures.steps in
    let b = c.args.book in
    let i = c.loop-key.invariant in
    let t = c.take_gens-n.ensures in
    record {
      visited = visit_key (key_gens b.header.device (book_of b.bytes.now).gens) c.loop-key.key-iterator c.next.new.self c.in-Some.key g i.visited t.reports;
      put = put_key (cover_pair b.header.device) c.loop-key.key-iterator c.next.new.self c.in-Some.key g i.put t.put;
      few = omega (arith, g, t.few, i.few);
      pairs = omega (arith, g, t.few, i.pairs);
    }

pub returns-clause-reports : goal.returns-clause-reports
returns-clause-reports c = visit_last c.loop-key.invariant.visited c.in-None.ensures.steps

pub returns-clause-put : goal.returns-clause-put
returns-clause-put c = put_last c.loop-key.invariant.put c.in-None.ensures.steps
