-- `fields::over_three_counters` meets its contract: it tests for a length of 32 or more.
use native.Mathlib.Omega.{arith}
use borrow.Author.Tests.{leb-true, le-leb}
use Rattle.fields.proofs.CounterTests.{over_by_length}
use Rattle.fields.proofs.over_three_counters.Statement.{statement}
use Rattle.fields.proofs.over_three_counters.Tie as tie

returns : tie.Need-returns
returns c = over_by_length c.args.bytes (omega (arith, leb-true, le-leb))

pub over_three_counters_spec : {M : Type 1} → statement M
over_three_counters_spec =
    tie.close
    (tie.spec
    returns)
