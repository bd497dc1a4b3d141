-- By the test.
use native.Mathlib.Omega.{arith}
use Rattle.links.proofs.count_skip.Statement.{statement}
use Rattle.links.proofs.count_skip.Tie as tie

pub count_skip_spec : {M : Type 1} → statement M
count_skip_spec = tie.close (tie.spec
    (λ c. (rw c.if-skip-id.true, omega arith))
    (λ c. (rw c.if-skip-id.false, omega arith)))
