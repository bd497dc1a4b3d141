-- Gap after gap, where each starts no earlier than the one before it ends.
use Rattle.std.proofs.Common.{ℕ, ◌*◌, get_or, refl, arith}
use Rattle.walk.proofs.Passed.{pass_first, pass_more, pass_last}
use Rattle.findings.proofs.Reports.{reports_as}
use Rattle.book.specs.Book.{book_of}
use Rattle.book.proofs.Walk.{few_keys, parts}
use Rattle.buckets.proofs.Ranges.{bound_grows, alloc_bound}
use Rattle.buckets.proofs.Gaps.{gaps_next, gaps_last, fair_at}
use Rattle.buckets.proofs.show_gaps.Goals as goal

pub loop-i-init : goal.loop-i-init
loop-i-init c = record { first = omega arith; few = omega arith; passed = pass_first; near = omega arith }

pub show_gap-near-requires : goal.show_gap-near-requires
show_gap-near-requires c =
    let o = c.args.book.opened in
    (omega (arith, c.loop-i.invariant.few, alloc_bound o c.loop-i.from, few_keys o, c.requires.0, c.requires.2), c.loop-i.invariant.near)

pub show_gap-requires : goal.show_gap-requires
show_gap-requires c =
    let o = c.args.book.opened in
    (omega (arith, c.loop-i.invariant.few, alloc_bound o c.loop-i.from, few_keys o, c.requires.0, c.requires.2), c.loop-i.invariant.near)

pub returns-clause-few : goal.returns-clause-few
returns-clause-few c =
    let b = c.args.book in
    omega (arith, c.show_gap.ensures.few.0, c.loop-i.invariant.few, c.requires.0, alloc_bound b.opened c.loop-i.from, alloc_bound b.opened b.header.buckets)

pub loop-i-preserved : goal.loop-i-preserved
loop-i-preserved c =
    let b = c.args.book in
    let p = c.args.pairs in
    let w = p.words.now in
    let l = c.loop-i in
    let alloc = (book_of b.bytes.now).alloc in
    let fair = fair_at b.header.first_bucket w p.count c.requires.1 p.wide l.i c.loop-i-test.true in
    let next = c.max-from.ensures in
    let start = c.first.ensures in
    let end = c.second.ensures in
    record {
      first = omega (arith, next, l.invariant.first);
      few = omega (
        arith,
        rw start at c.show_gap-near.ensures.few.0,
        l.invariant.few,
        bound_grows {x = l.from} {y = c.max-from.result} (omega (arith, next)) alloc,
        bound_grows {x = get_or w (2 * l.i) 0} {y = c.max-from.result} (omega (arith, next, end, fair, l.invariant.first)) alloc,
      );
      passed = pass_more l.invariant.passed c.show_gap-near.ensures.reports (rw (next, start, end) (gaps_next alloc w p.count l.i l.from b.header.buckets p.wide c.loop-i-test.true));
      near = c.show_gap-near.ensures.few.1;
    }

pub returns-clause-reports : goal.returns-clause-reports
returns-clause-reports c =
    let b = c.args.book in
    let p = c.args.pairs in
    let l = c.loop-i in
    let end = gaps_last (book_of b.bytes.now).alloc p.words.now p.count l.i l.from b.header.buckets c.loop-i-test.false in
    pass_last (pass_more l.invariant.passed c.show_gap.ensures.reports end) refl
