-- Key after key.
use Rattle.std.proofs.Common.{◌∙◌, sym, ap, arith}
use Rattle.book.specs.Book.{book_of}
use Rattle.walk.proofs.Passed.{pass_first, pass_more, pass_last}
use Rattle.keys.specs.KeyFindings.{key_findings}
use Rattle.keys.specs.Present.{present_with, present_in}
use Rattle.keys.proofs.Laws.{keys_all, left_keys, judged_next, judged_end, present_next, present_end, no_btrees}
use Rattle.keys.proofs.judge_keys.Goals as goal

pub loop-index-init : goal.loop-index-init
unfolding present_in
loop-index-init c =
    let k = c.keys in
    let e = c.enumerate-index-items.ensures in
    let d = c.default-present.ensures in
    let all = keys_all c.args.book k.result k.ensures.bytes k.ensures.all in
    rw (c.into_iter-index-iterator.ensures.into_iter_gives, e.source, e.count)
    (record {
      passed = rw all pass_first;
      few = omega (arith, k.ensures.all);
      counted = omega (arith, k.ensures.all);
      present = rw all (ap (λ q. present_with q (left_keys k.result)) (no_btrees c.default-present.result d.0 d.1.0 d.1.1.0 d.1.1.1.0 d.1.1.1.1));
    })

pub loop-index-preserved : goal.loop-index-preserved
loop-index-preserved c =
    let i = c.loop-index.invariant in
    let it = c.loop-index.index-iterator in
    let s = c.in-Some.ensures.steps in
    let b = book_of c.args.book.bytes.now in
    record {
      passed = pass_more i.passed c.judge_key.ensures.reports (rw (s.1, s.2) (judged_next it.iter c.next.new.self.iter c.in-Some.key s.0 (key_findings b) it.count));
      few = omega (arith, s.0, c.judge_key.ensures.few, i.few);
      counted = omega (arith, s.0, s.2, i.counted);
      present = i.present ∙ rw c.with-present.ensures (present_next it.iter c.next.new.self.iter c.in-Some.key s.0 c.loop-index.present);
    }

pub returns-clause-reports : goal.returns-clause-reports
returns-clause-reports c =
    let it = c.loop-index.index-iterator in
    pass_last c.loop-index.invariant.passed (judged_end it.iter c.in-None.ensures.steps.0 (key_findings (book_of c.args.book.bytes.now)) it.count)

pub returns-clause-present : goal.returns-clause-present
returns-clause-present c =
    let it = c.loop-index.index-iterator in
    sym (c.loop-index.invariant.present ∙ present_end it.iter c.in-None.ensures.steps.0 c.loop-index.present)
