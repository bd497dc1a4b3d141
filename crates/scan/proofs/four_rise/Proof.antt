-- `scan::four_rise` meets its contract: the tests that lead to each return decide those of `rise_four` in turn.
use mathlib.Core.Path.{◌≡◌, sym, ◌∙◌}
use mathlib.Core.Bool.{true}
use Prim.Native.Nat.{◌+◌}
use lib.Dec.{ltb}
use borrow.Author.Tests.{lt-ltb, le-ltb}
use Rattle.book.proofs.Tables.{word_be}
use Rattle.scan.proofs.Rise.{word, rise_four}
use borrow.Author.Rules.{rules}
use Rattle.scan.proofs.four_rise.Statement.{statement}
use Rattle.scan.proofs.four_rise.Tie as tie

-- the words that are read
one : (c : tie.After-be32-one) → let a = c.args in c.be32-one.result ≡ word a.book.now (a.at + 8)
one c = word_be _ (λ j. (c.shared_slice_known-1.given j).fits) _ c.be32-one.ensures

two : (c : tie.After-be32-two) → let a = c.args in c.be32-two.result ≡ word a.book.now (a.at + 16)
two c = word_be _ (λ j. (c.shared_slice_known-1.given j).fits) _ c.be32-two.ensures

three : (c : tie.After-be32-three) → let a = c.args in c.be32-three.result ≡ word a.book.now (a.at + 24)
three c = word_be _ (λ j. (c.shared_slice_known-1.given j).fits) _ c.be32-three.ensures

-- the tests that were passed
rise_one : (c : tie.Else-one-first) → let a = c.args in ltb (word a.book.now a.at) (word a.book.now (a.at + 8)) ≡ true
rise_one c = lt-ltb _ _ (rw (one c.before, c.requires.1) at c.if-one-first.false)

rise_two : (c : tie.Else-two-one) → let a = c.args in
    ltb (word a.book.now (a.at + 8)) (word a.book.now (a.at + 16)) ≡ true
rise_two c = lt-ltb _ _ (rw (one c.before.before.before, two c.before) at c.if-two-one.false)

rise_three : (c : tie.Else-three-two) → let a = c.args in
    ltb (word a.book.now (a.at + 16)) (word a.book.now (a.at + 24)) ≡ true
rise_three c = lt-ltb _ _ (rw (two c.before.before.before, three c.before) at c.if-three-two.false)

returns : tie.Need-returns-then-one-first
returns c = sym (rise_four _ _ ∙ rw (← one c.before, ← c.requires.1, le-ltb _ _ c.if-one-first.true))

returns_2 : tie.Need-returns-then-two-one
returns_2 c = sym (rise_four _ _ ∙ rw (rise_one c.before.before, ← one c.before.before.before, ← two c.before, le-ltb _ _ c.if-two-one.true))

returns_3 : tie.Need-returns-then-three-two
returns_3 c =
    sym
    (rise_four _ _ ∙
    rw (rise_one c.before.before.before.before, rise_two c.before.before, ← two c.before.before.before, ← three c.before, le-ltb _ _ c.if-three-two.true))

returns_4 : tie.Need-returns
returns_4 c =
    let four = word_be _ (λ j. (c.shared_slice_known-1.given j).fits) _ c.be32.ensures in
    sym
    (rise_four _ _ ∙
    rw (rise_one c.before.before.before.before.before, rise_two c.before.before.before, rise_three c.before, ← three c.before.before, ← four))

pub four_rise_spec : {M : Type 1} → statement M
four_rise_spec =
    tie.close
    (tie.spec
    (λ c. search rules)
    (λ c κs. search rules)
    returns
    (λ c. search rules)
    (λ c κs. search rules)
    returns_2
    (λ c. search rules)
    (λ c κs. search rules)
    returns_3
    (λ c. search rules)
    (λ c κs. search rules)
    returns_4)
