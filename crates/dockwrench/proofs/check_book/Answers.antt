-- By the length of the work area.
use Prim.Native.Nat.{ℕ}
use mathlib.Core.List.{[]}
use mathlib.Core.Path.{refl, ap, ◌∙◌}
use native.Mathlib.Omega.{arith}
use lib.ListN.{length}
use Rattle.std.specs.Prelude.{Result, Ok}
use Rattle.book.specs.declared.refusal.Refusal.{Refusal}
use Rattle.dockwrench.specs.declared.Checked.{Checked}
use Rattle.dockwrench.specs.Answers.{count_in, check_book, book_buffer, book_work, checked_answer}
use Rattle.dockwrench.proofs.Laws.{short_is, short_not, count_few}
use Rattle.dockwrench.proofs.Demand3.{claim_other, claim_judged}
use Rattle.book.proofs.Walk.{parse_accepted}
use Rattle.dockwrench.proofs.check_book.Goals as goal

-- the count that a buffer of this room is answered by
abbrev counted : ℕ → ℕ → Result Checked Refusal
counted room n = Ok (count_in room n)

pub check_all-count-requires : goal.check_all-count-requires
check_all-count-requires c = omega (arith, c.if-work-book.false)

pub returns-then-work-book : goal.returns-then-work-book
unfolding check_book book_buffer book_work checked_answer
returns-then-work-book c =
    let e = short_is {words = length c.args.work.now} c.args.book.opened (omega (arith, c.if-work-book.true)) in
    record { answer = rw (e, c.at.ensures); buffer = rw e; work = rw e; few = omega arith; claim = rw c.at.ensures (claim_other (omega arith)) }

pub returns : goal.returns
unfolding check_book book_buffer book_work
returns c =
    let e = short_not {words = length c.args.work.now} c.args.book.opened (omega (arith, c.if-work-book.false)) in
    let all = c.check_all-count.ensures in
    let count = c.count_in.ensures in
    record {
      answer = rw e (ap (λ (a : Checked). Ok a) count ∙ ap (counted (length c.args.findings.now)) all.count);
      buffer = rw e all.buffer;
      work = rw e all.work;
      few = count_few _ _ count all.few;
      claim = claim_judged {c = []} (parse_accepted c.args.book.bytes.now c.args.book.opened.accepted) (record { count = all.count; buffer = all.buffer; counts = refl; encodable = all.whole }) (ap (λ (a : Checked). Ok a) count);
    }
