-- `buckets::put_mark` meets its contract: two words are written, which leave the length.
use lib.ListN.{length-set}
use native.Mathlib.Omega.{arith}
use borrow.Author.Rules.{rules}
use Rattle.buckets.proofs.put_mark.Statement.{statement}
use Rattle.buckets.proofs.put_mark.Tie as tie

slice_write_marks_2 : tie.Need-bounds-marks-at-2
slice_write_marks_2 c = simp length-set (omega arith)

pub put_mark_spec : {M : Type 1} → statement M
put_mark_spec =
    tie.close
    (tie.spec
    (λ c. search rules)
    (λ c. search rules)
    (λ c. search rules)
    (λ c. search rules)
    (λ c. search rules)
    slice_write_marks_2
    (λ c. search rules)
    (λ c. search rules))
