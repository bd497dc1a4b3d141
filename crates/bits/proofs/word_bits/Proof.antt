-- `bits::word_bits` meets its contract: a field of whole bytes is their big-endian number.
use mathlib.Core.Path.{◌∙◌, sym}
use Rattle.bits.proofs.Laws.{bits_be}
use borrow.Author.Rules.{rules}
use Rattle.bits.proofs.word_bits.Statement.{statement}
use Rattle.bits.proofs.word_bits.Tie as tie

returns : tie.Need-returns-then-n-eq32
returns c =
    let a = c.before.before.before.args in
    rw c.before.if-n-eq32.true (c.be32.ensures ∙ sym (bits_be a.s.now (λ j. (c.before.before.shared_slice_known-1.given j).fits) a.i 4))

returns_2 : tie.Need-returns-then-n-eq64
returns_2 c =
    let a = c.before.before.before.before.args in
    rw c.before.if-n-eq64.true (c.be64.ensures ∙ sym (bits_be a.s.now (λ j. (c.before.before.before.shared_slice_known-1.given j).fits) a.i 8))

pub word_bits_spec : {M : Type 1} → statement M
word_bits_spec =
    tie.close
    (tie.spec
    (λ c κs. search rules)
    (λ c. search rules)
    returns
    (λ c κs. search rules)
    returns_2
    (λ c. search rules)
    (λ c κs. search rules)
    (λ c. search rules))
