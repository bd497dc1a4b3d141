-- All rules are judged into an empty report.
use Prim.Native.Nat.{ℕ}
use mathlib.Core.Path.{sym, ap, ◌∙◌}
use lib.ListN.{replicate}
use borrow.Author.Rules.{rules}
use native.Mathlib.Omega.{arith}
use Rattle.findings.proofs.Laws.{begin}
use Rattle.dockwrench.specs.Answers.{zeros}
use Rattle.dockwrench.proofs.check_all.Goals as goal

pub returns-clause-buffer : goal.returns-clause-buffer
returns-clause-buffer c =
    let r = c.judge.ensures.reports in
    let same = sym r.same_buffer in
    let e = (begin r.added).buffer in
    grind (arith)

pub returns-clause-work : goal.returns-clause-work
unfolding zeros
returns-clause-work c = c.fill.ensures.after (λ y e. e) ∙ ap (λ (n : ℕ). replicate n 0) (search rules)
