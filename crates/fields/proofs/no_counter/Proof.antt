-- `fields::no_counter` meets its contract: it tests for a length below 8.
use native.Mathlib.Omega.{arith}
use borrow.Author.Tests.{leb-true, le-leb}
use Rattle.fields.proofs.CounterTests.{none_by_length}
use Rattle.fields.proofs.no_counter.Statement.{statement}
use Rattle.fields.proofs.no_counter.Tie as tie

returns : tie.Need-returns
returns c = none_by_length c.args.bytes (omega (arith, leb-true, le-leb))

pub no_counter_spec : {M : Type 1} → statement M
no_counter_spec =
    tie.close
    (tie.spec
    returns)
