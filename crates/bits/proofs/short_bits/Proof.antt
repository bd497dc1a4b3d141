-- `bits::short_bits` meets its contract, on each of its ways.
use Prim.Native.Nat.{◌+◌, ◌-◌, ◌%◌}
use mathlib.Core.Path.{◌≡◌}
use native.Mathlib.Omega.{arith}
use Rattle.bits.proofs.Laws.{within}
use borrow.Author.Rules.{rules}
use Rattle.bits.proofs.short_bits.Statement.{statement}
use Rattle.bits.proofs.short_bits.Tie as tie

returns : tie.Need-returns-then-end-le8
returns c =
    let a = c.before.before.before.before.args in
    let shift : 8 - a.from % 8 - a.n ≡ 8 - (a.from % 8 + a.n) = omega arith in
    rw (within a.s.now a.from a.n (omega arith), shift) c.part.ensures

pub short_bits_spec : {M : Type 1} → statement M
short_bits_spec =
    tie.close
    (tie.spec
    (λ c. search rules)
    (λ c. search rules)
    (λ c κs. search rules)
    returns
    (λ c κs. search rules)
    (λ c. search rules)
    (λ c κs. search rules)
    (λ c. search rules))
