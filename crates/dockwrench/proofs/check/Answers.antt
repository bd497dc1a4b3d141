-- By what `scan` answers.
use mathlib.Core.Path.{subst}
use mathlib.Core.List.{List}
use Prim.Native.Nat.{ℕ}
use native.Mathlib.Omega.{arith}
use Rattle.std.proofs.lemmas.Result.{err_from_is_err_and}
use Rattle.dockwrench.specs.Answers.{check_of, buffer_after, work_after, checked_answer}
use Rattle.dockwrench.specs.Claim.{Claim}
use Rattle.dockwrench.proofs.Laws.{accepted_as}
use Rattle.dockwrench.proofs.Demand3.{claim_refused}
use Rattle.dockwrench.proofs.check.Goals as goal

pub returns-in_err-scan : goal.returns-in_err-scan
unfolding check_of buffer_after work_after checked_answer
returns-in_err-scan c =
    let p = err_from_is_err_and c.from_residual.result c.from_residual.ensures.1 in
    let e = c.in_err-scan.ensures.refused in
    record { answer = rw (p.1, p.2, e); buffer = rw e; work = rw e; few = rw (p.1) (omega arith); claim = claim_refused e }

pub returns : goal.returns
unfolding check_of buffer_after work_after
returns c =
    let b = c.in_ok-scan.field-0 in
    let same = c.in_ok-scan.ensures.same in
    let e = accepted_as b.opened same in
    let r = c.check_book.ensures in
    record {
      answer = rw e r.answer;
      buffer = rw e r.buffer;
      work = rw e r.work;
      few = r.few;
      claim = subst (λ (s : List ℕ). Claim s (checked_answer c.check_book.result) c.check_book.new.findings) same r.claim;
    }
