-- The last place of each class, and the latest of them.
use borrow.Author.Tests.{eq-eqb, ne_eqb}
use Rattle.drawn.specs.Classes.{latest}
use Rattle.drawn.proofs.find_each.Goals as goal

pub returns-then-class-eq3 : goal.returns-then-class-eq3
unfolding latest
returns-then-class-eq3 c = rw (eq-eqb c.args.class 3 c.if-class-eq3.true) c.find_place_near-long.ensures

pub returns-then-class-eq2 : goal.returns-then-class-eq2
unfolding latest
returns-then-class-eq2 c = rw (ne_eqb c.args.class 3 c.if-class-eq3.false, eq-eqb c.args.class 2 c.if-class-eq2.true, c.later_place-upper.ensures, c.find_place_near-middle.ensures, c.find_place_near-long.ensures)

pub returns : goal.returns
unfolding latest
returns c = rw (ne_eqb c.args.class 3 c.if-class-eq3.false, ne_eqb c.args.class 2 c.if-class-eq2.false, c.later_place.ensures, c.later_place-upper.ensures, c.find_place_near-short.ensures, c.find_place_near-middle.ensures, c.find_place_near-long.ensures)
