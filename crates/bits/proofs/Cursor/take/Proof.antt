-- `bits::Cursor::take` meets its contract, by that of `bits_at`; n bits make a number below 2 ^ n.
use mathlib.Core.Path.{refl}
use Rattle.bits.proofs.Laws.{bits_lt}
use borrow.Author.Rules.{rules}
use Rattle.bits.proofs.Cursor.take.Statement.{statement}
use Rattle.bits.proofs.Cursor.take.Tie as tie

returns : tie.Need-returns
returns c =
    let a = c.before.before.args in
    (c.bits_at-value.ensures, refl, rw c.bits_at-value.ensures (bits_lt a.s.now a.self.at a.n))

pub take_spec : {M : Type 1} → statement M
take_spec =
    tie.close
    (tie.spec
    (λ c κs. search rules)
    (λ c. search rules)
    returns)
