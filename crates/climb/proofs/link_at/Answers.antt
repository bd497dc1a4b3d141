-- By its test.
use Rattle.std.proofs.Common.{◌∙◌, sym, arith}
use Rattle.book.proofs.AtKey.{at_least, at_length}
use Rattle.drawn.proofs.Scan.{at_holds}
use Rattle.climb.specs.Links.{link_of}
use Rattle.climb.proofs.link_at.Goals as goal

pub word-requires : goal.word-requires
word-requires c =
    let k = c.args.key.stands in
    omega (arith, at_least k 9 22 8 (sym c.has_parent.ensures ∙ c.if-has_parent.true), at_length k)

pub returns-then-has_parent : goal.returns-then-has_parent
unfolding link_of
returns-then-has_parent c =
    rw (at_holds c.args.key.stands 9 22 8 (sym c.has_parent.ensures ∙ c.if-has_parent.true), c.id.ensures, c.word.ensures)

pub returns : goal.returns
unfolding link_of
returns c = rw (at_holds c.args.key.stands 9 22 8 (sym c.has_parent.ensures ∙ c.if-has_parent.false))
