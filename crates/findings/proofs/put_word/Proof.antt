-- `findings::put_word` meets its contract: its stores are `sets`, once `at + k` is read as k successors.
use native.Mathlib.Numerals.{towards_suc}
use Rattle.std.proofs.Common.{arith, length-set, rules}
use Rattle.findings.specs.Findings.{bytes_of}
use Rattle.findings.proofs.put_word.Statement.{statement}
use Rattle.findings.proofs.put_word.Tie as tie

returns : tie.Need-returns
unfolding bytes_of
returns c = simp towards_suc

pub put_word_spec : {M : Type 1} → statement M
put_word_spec =
    tie.close
    (tie.spec
    (λ c. search rules)
    (λ c. search rules)
    (λ c. search rules)
    (λ c. search rules)
    (λ c. simp length-set (omega arith))
    (λ c. search rules)
    (λ c. search rules)
    (λ c. simp length-set (omega arith))
    (λ c. search rules)
    (λ c. search rules)
    (λ c. simp length-set (omega arith))
    (λ c. search rules)
    (λ c. search rules)
    (λ c. simp length-set (omega arith))
    (λ c. search rules)
    (λ c. search rules)
    (λ c. simp length-set (omega arith))
    (λ c. search rules)
    (λ c. search rules)
    (λ c. simp length-set (omega arith))
    (λ c. search rules)
    (λ c. search rules)
    (λ c. simp length-set (omega arith))
    (λ c. simp length-set)
    returns)
