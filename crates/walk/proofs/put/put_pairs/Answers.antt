-- Key after key.
use Rattle.std.proofs.Common.{◌≡◌, ◌∙◌, refl, sym, ap, List, [], ◌++◌, append-nil, ℕ, arith}
use Rattle.pairs.specs.Pairs.{pairs_of}
use Rattle.walk.specs.Keys.{gather}
use Rattle.walk.proofs.Puts.{put_first, put_key, put_last, begin_gather}
use Rattle.walk.proofs.put.put_pairs.Goals as goal

pub loop-key-init : goal.loop-key-init
loop-key-init g c =
    let k = c.keys-key-items in
    rw c.into_iter-key-iterator.ensures.into_iter_gives
    (record { put = put_first g.of k.result c.args.work.now (begin_gather g.of c.args.book k.result k.ensures.bytes k.ensures.all); few = omega (arith, k.ensures.all) })

pub loop-key-preserved-in-Some-pair_of : goal.loop-key-preserved-in-Some-pair_of
loop-key-preserved-in-Some-pair_of g c =
    let s = c.in-Some.ensures.steps in
    let one = c.requires.1.1.0 c.in-Some.key _ c.in-Some-pair_of.ensures in
    record {
      put = put_key g.of c.loop-key.key-iterator c.next.new.self c.in-Some.key s c.loop-key.invariant.put (c.put_pair.ensures.n_after ∙ ap (λ (l : List ℕ). pairs_of c.loop-key.work c.loop-key.n ++ l) one);
      few = omega (arith, s, c.loop-key.invariant.few);
    }

pub loop-key-preserved : goal.loop-key-preserved
loop-key-preserved g c =
    let s = c.in-Some.ensures.steps in
    let one = c.requires.1.1.0 c.in-Some.key _ c.in_default.ensures in
    record {
      put = put_key g.of c.loop-key.key-iterator c.next.new.self c.in-Some.key s c.loop-key.invariant.put (rw (← one, append-nil));
      few = omega (arith, s, c.loop-key.invariant.few);
    }

pub returns-clause-put : goal.returns-clause-put
returns-clause-put g c = put_last c.loop-key.invariant.put c.in-None.ensures.steps
