-- By the tests.
use Rattle.std.proofs.Common.{◌∙◌, sym}
use Rattle.book.proofs.AtKey.{at_length}
use Rattle.maps.specs.Places.{place_pair}
use Rattle.drawn.specs.Classes.{link_pair}
use Rattle.drawn.proofs.Scan.{at_holds}
use Rattle.drawn.proofs.link_pair.Goals as goal

pub returns-then-holds : goal.returns-then-holds
unfolding link_pair place_pair
returns-then-holds c = rw (sym c.holds.ensures.holds ∙ c.if-holds.true, c.place_pair.ensures.0, c.place_pair.ensures.1)

pub returns-then-has_parent : goal.returns-then-has_parent
unfolding link_pair place_pair
returns-then-has_parent c =
    let p = c.place_pair-then-has_parent.ensures in
    let snapshot = at_holds c.args.key.stands 9 22 8 (sym c.has_parent.ensures ∙ c.if-has_parent.true) in
    rw (sym c.holds.ensures.holds ∙ c.if-holds.false, snapshot, p.0, p.1, c.class_of.ensures.class, at_length c.args.key.stands)

pub returns : goal.returns
unfolding link_pair
returns c = rw (sym c.holds.ensures.holds ∙ c.if-holds.false, at_holds c.args.key.stands 9 22 8 (sym c.has_parent.ensures ∙ c.if-has_parent.false))
