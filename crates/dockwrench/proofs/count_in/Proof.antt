-- By the test.
use Rattle.dockwrench.proofs.Laws.{room_short, room_enough}
use borrow.Author.Rules.{rules}
use native.Mathlib.Omega.{arith}
use Rattle.dockwrench.proofs.count_in.Statement.{statement}
use Rattle.dockwrench.proofs.count_in.Tie as tie

returns : tie.Need-returns-then-room-count
returns c = room_short _ _ (omega (arith, c.if-room-count.true))

returns_2 : tie.Need-returns
returns_2 c = room_enough _ _ (omega (arith, c.if-room-count.false))

pub count_in_spec : {M : Type 1} → statement M
count_in_spec =
    tie.close
    (tie.spec
    (λ c. search rules)
    returns
    returns_2)
