-- Digit, letter, and the three ranges of other bytes.
use borrow.Author.Rules.{rules}
use native.Mathlib.Omega.{arith}
use Rattle.lines.proofs.Lines.{digit_low, digit_high, digit_below, digit_between, digit_above}
use Rattle.lines.proofs.digit.Statement.{statement}
use Rattle.lines.proofs.digit.Tie as tie

pub digit_spec : {M : Type 1} → statement M
digit_spec =
    tie.close
    (tie.spec
    (λ c. search rules)
    (λ c. (digit_low _ (omega arith) (omega arith), omega arith))
    (λ c. (digit_high _ (omega arith) (omega arith), omega arith))
    (λ c. (digit_below _ (omega arith), omega arith))
    (λ c. (digit_between _ (omega arith) (omega arith), omega arith))
    (λ c. (digit_above _ (omega arith), omega arith)))
