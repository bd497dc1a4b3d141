-- `scan::read_first` meets its contract: the first field is a word of 4 bytes or of 8.
use mathlib.Core.Path.{sym, ◌∙◌}
use Rattle.book.proofs.Tables.{first_be}
use borrow.Author.Rules.{rules}
use native.Mathlib.Omega.{arith}
use Rattle.scan.proofs.read_first.Statement.{statement}
use Rattle.scan.proofs.read_first.Tie as tie

returns : tie.Need-returns-then-t-eq32
returns c =
    let a = c.args in
    c.be32.ensures ∙ sym (first_be a.t a.book.now (λ j. (c.shared_slice_known-1.given j).fits) a.at 4 (omega arith))

returns_2 : tie.Need-returns
returns_2 c =
    let a = c.args in
    c.be64.ensures ∙ sym (first_be a.t a.book.now (λ j. (c.shared_slice_known-1.given j).fits) a.at 8 (omega arith))

pub read_first_spec : {M : Type 1} → statement M
read_first_spec =
    tie.close
    (tie.spec
    (λ c κs. search rules)
    (λ c. search rules)
    returns
    (λ c κs. search rules)
    returns_2)
