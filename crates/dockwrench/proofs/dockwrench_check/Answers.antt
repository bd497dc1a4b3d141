-- Each answer as its number.
use mathlib.Core.Path.{sym, ap, ◌∙◌}
use native.Mathlib.Omega.{arith}
use Rattle.dockwrench.specs.Answers.{checked_answer}
use Rattle.dockwrench.proofs.Laws.{found_few, room_few, check_bounds}
use Rattle.dockwrench.proofs.Demand3.{claim_as}
use Rattle.dockwrench.proofs.dockwrench_check.Goals as goal

pub pack-requires : goal.pack-requires
pack-requires c =
    let told = rw c.in-Ok-Found.field-0-is at c.in-Ok-Found.is in
    (omega arith, omega arith, found_few told c.check.ensures.few)

pub pack-requires-in-Ok-NoRoom : goal.pack-requires-in-Ok-NoRoom
pack-requires-in-Ok-NoRoom c =
    let told = rw c.in-Ok-NoRoom.field-0-is at c.in-Ok-NoRoom.is in
    (omega arith, omega arith, room_few told c.check.ensures.few)

pub pack-requires-in-Err : goal.pack-requires-in-Err
pack-requires-in-Err c =
    let b = check_bounds c.args.book.now _ _ (sym c.check.ensures.answer ∙ c.in-Err.is) in
    (omega (arith, b.0), omega (arith, b.1), omega arith)

pub returns-in-Ok-Found : goal.returns-in-Ok-Found
unfolding checked_answer
returns-in-Ok-Found c =
    let r = c.check.ensures in
    let told = rw c.in-Ok-Found.field-0-is at c.in-Ok-Found.is in
    let e = sym r.answer ∙ told in
    let p = c.pack.ensures in
    record {
      answer = rw e p.packed;
      apart = rw e p.apart;
      buffer = r.buffer;
      work = r.work;
      claim = claim_as (ap checked_answer told ∙ sym p.apart) r.claim;
    }

pub returns-in-Ok-NoRoom : goal.returns-in-Ok-NoRoom
unfolding checked_answer
returns-in-Ok-NoRoom c =
    let r = c.check.ensures in
    let told = rw c.in-Ok-NoRoom.field-0-is at c.in-Ok-NoRoom.is in
    let e = sym r.answer ∙ told in
    let p = c.pack-in-Ok-NoRoom.ensures in
    record {
      answer = rw e p.packed;
      apart = rw e p.apart;
      buffer = r.buffer;
      work = r.work;
      claim = claim_as (ap checked_answer told ∙ sym p.apart) r.claim;
    }

pub returns-in-Err : goal.returns-in-Err
unfolding checked_answer
returns-in-Err c =
    let r = c.check.ensures in
    let told = c.in-Err.is in
    let e = sym r.answer ∙ told in
    let p = c.pack-in-Err.ensures in
    record {
      answer = rw e p.packed;
      apart = rw e p.apart;
      buffer = r.buffer;
      work = r.work;
      claim = claim_as (ap checked_answer told ∙ sym p.apart) r.claim;
    }
