-- `findings::emit_if` meets its contract: its branch is the test that `when` has.
use Rattle.std.proofs.Common.{arith, rules}
use Rattle.findings.specs.Findings.{when}
use Rattle.findings.proofs.Laws.{added_nil}
use Rattle.findings.proofs.emit_if.Statement.{statement}
use Rattle.findings.proofs.emit_if.Tie as tie

pub emit_if_spec : {M : Type 1} → statement M
unfolding when
emit_if_spec =
    tie.close
    (tie.spec
    (λ c κs. search rules)
    (λ c. search rules)
    (λ c. search rules)
    (λ c. (rw c.before.before.before.before.before.before.before.if-yes.true c.before.before.before.before.emit.ensures, omega arith))
    (λ c. (added_nil (rw c.if-yes.false), omega arith)))
