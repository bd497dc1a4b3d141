-- Byte after byte.
use Rattle.std.proofs.Common.{◌≡◌, ◌≤◌, ◌<◌, length, take, refl, sym, arith}
use lib.ListN.{get_or, length-take}
use lib.Seq.{get_or-take}
use Rattle.findings.proofs.Reports.{reports_as}
use Rattle.findings.proofs.Walk.{each_cons, each_none, drop_at, drop_past}
use Rattle.book.specs.Book.{book_of}
use Rattle.book.proofs.Walk.{parts}
use Rattle.walk.proofs.Passed.{pass_first, pass_more, pass_last}
use Rattle.gens.specs.BucketGensAgainstAlloc.{gen_at}
use Rattle.gens.proofs.Gens.{bound_as, gen_is}
use Rattle.gens.proofs.show_value.Goals as goal

pub gens_from-at-requires : goal.gens_from-at-requires
gens_from-at-requires c = (parts c.args.book.now.opened).gens_rise

pub loop-i-init : goal.loop-i-init
loop-i-init c = record { place = bound_as (omega arith) c.gens_from-at.ensures; passed = pass_first; few = omega arith }

pub next_gen-next-requires : goal.next_gen-next-requires
next_gen-next-requires c = c.loop-i.invariant.place

pub show_gen-requires : goal.show_gen-requires
show_gen-requires c = omega (arith, c.requires, c.loop-i.invariant.few, c.loop-i-test.true, c.min-i-end.ensures)

pub loop-i-preserved : goal.loop-i-preserved
loop-i-preserved c =
    let a = c.args in
    let v = a.value.now in
    let l = c.loop-i in
    let next = c.next_gen-next.ensures in
    let gens = (book_of a.book.now.bytes.now).gens in
    let within : l.i < length (take 256 v) = omega (arith, length-take 256 v, c.loop-i-test.true, c.min-i-end.ensures) in
    let byte : get_or (take 256 v) l.i 0 ≡ get_or v l.i 0 = get_or-take 256 v l.i 0 (omega (arith, c.loop-i-test.true, c.min-i-end.ensures)) in
    record {
      place = bound_as (omega arith) next.next;
      passed = pass_more l.invariant.passed (reports_as (gen_is gens a.offset l.i refl (sym byte) next.generation) c.show_gen.ensures.reports)
          (each_cons (gen_at gens a.offset) l.i (drop_at (take 256 v) l.i 0 within));
      few = omega (arith, l.invariant.few, c.show_gen.ensures.few);
    }

pub returns-clause-reports : goal.returns-clause-reports
returns-clause-reports c =
    let v = c.args.value.now in
    let past : length (take 256 v) ≤ c.loop-i.i = omega (arith, length-take 256 v, c.loop-i-test.false, c.min-i-end.ensures) in
    pass_last c.loop-i.invariant.passed (each_none _ _ (drop_past _ _ past))

pub returns-clause-few : goal.returns-clause-few
returns-clause-few c = omega (arith, c.loop-i.invariant.few, c.loop-i.auto, c.min-i-end.ensures)
