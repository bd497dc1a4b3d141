-- By the law of the exclusive or.
use Rattle.states.proofs.Bits.{ones_apart}
use Rattle.states.proofs.bits_apart.Statement.{statement}
use Rattle.states.proofs.bits_apart.Tie as tie

pub bits_apart_spec : {M : Type 1} → statement M
bits_apart_spec =
    tie.close
    (tie.spec
    (λ c. ones_apart _ _ c.ranges.x.fits c.ranges.y.fits))
