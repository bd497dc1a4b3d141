-- `scan::bad_rest` meets its contract: it computes what `bad_rest` says.
use mathlib.Core.Path.{refl}
use Rattle.book.specs.Refusals.{bad_rest}
use Rattle.scan.proofs.bad_rest.Statement.{statement}
use Rattle.scan.proofs.bad_rest.Tie as tie

returns : tie.Need-returns
unfolding bad_rest
returns c = refl

pub bad_rest_spec : {M : Type 1} → statement M
bad_rest_spec =
    tie.close
    (tie.spec
    returns)
