-- `tables::data_type` meets its contract, by the test of has-type.
use borrow.Author.Tests.{eq-eqb, ne_eqb}
use Rattle.book.specs.Book.{data_type_of}
use Rattle.tables.proofs.data_type.Goals as goal

pub returns-then-rest-eq1 : goal.returns-then-rest-eq1
unfolding data_type_of
returns-then-rest-eq1 c = simp (eq-eqb _ _ c.if-rest-eq1.true)

pub returns : goal.returns
unfolding data_type_of
returns c = simp (ne_eqb _ _ c.if-rest-eq1.false)
