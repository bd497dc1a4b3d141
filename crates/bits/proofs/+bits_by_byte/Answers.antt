-- The bits of the last byte stand below those before them.
use Rattle.std.proofs.Common.{arith}
use Rattle.bits.proofs.Laws.{no_bits, last_byte, bits_fit}
use Rattle.bits.proofs.+bits_by_byte.Goals as goal

pub returns-then-n-eq0 : goal.returns-then-n-eq0
returns-then-n-eq0 t c = no_bits _ _ c.if-n-eq0.true

pub overflow_add-result : goal.overflow_add-result
overflow_add-result t c =
    let a = c.args in
    record { fits = rw (c.bits_by_byte.ensures, c.part.ensures, last_byte a.s.now a.from a.n (omega arith) (omega arith) c.min-size.ensures) (bits_fit _ _ _ (omega arith)) }

pub returns : goal.returns
returns t c = rw (c.bits_by_byte.ensures, c.part.ensures) (last_byte _ _ _ (omega arith) (omega arith) c.min-size.ensures)
