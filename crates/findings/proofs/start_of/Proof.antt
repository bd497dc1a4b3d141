-- `findings::start_of` meets its contract: its branch is the least of the two numbers.
use Rattle.std.proofs.Common.{arith}
use Rattle.findings.proofs.start_of.Statement.{statement}
use Rattle.findings.proofs.start_of.Tie as tie

pub start_of_spec : {M : Type 1} → statement M
start_of_spec = tie.close (tie.spec (λ c. omega arith) (λ c. omega arith) (λ c. omega arith))
