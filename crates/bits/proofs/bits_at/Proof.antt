-- `bits::bits_at` meets its contract, on each of its ways.
use Prim.Native.Nat.{ℕ}
use mathlib.Core.Path.{◌∙◌, ap}
use native.Mathlib.Omega.{arith}
use Rattle.bits.specs.Bits.{bits_at}
use Rattle.bits.proofs.Laws.{no_bits}
use borrow.Author.Rules.{rules}
use Rattle.bits.proofs.bits_at.Statement.{statement}
use Rattle.bits.proofs.bits_at.Tie as tie

returns_3 : tie.Need-returns-then-from-eq0
returns_3 c =
    let a = c.before.before.before.before.before.args in
    c.word_bits.ensures ∙ ap (λ (p : ℕ). bits_at a.s.now p a.n) (omega arith)

pub bits_at_spec : {M : Type 1} → statement M
bits_at_spec =
    tie.close
    (tie.spec
    (λ c. no_bits _ _ c.if-n-eq0.true)
    (λ c κs. search rules)
    (λ c. search rules)
    (λ c κs. search rules)
    returns_3
    (λ c κs. search rules)
    (λ c. search rules))
