-- By its tests.
use Rattle.std.proofs.Common.{◌∙◌, sym, arith}
use Rattle.book.proofs.AtKey.{at_length}
use Rattle.children.proofs.Children.{parent_short, parent_long, parent_none}
use Rattle.children.proofs.has_fs_parent.Goals as goal

pub returns-then-not-holds : goal.returns-then-not-holds
returns-then-not-holds c = parent_none _ (sym c.holds.ensures.holds ∙ c.if-not-holds.true)

pub returns-then-key-lt44 : goal.returns-then-key-lt44
returns-then-key-lt44 c =
    parent_short _ (sym c.holds.ensures.holds ∙ c.if-not-holds.false) (omega (arith, at_length c.args.key.stands, c.if-key-lt44.true))

pub word-requires : goal.word-requires
word-requires c = omega (arith, at_length c.args.key.stands, c.if-key-lt44.false)

pub returns : goal.returns
returns c =
    parent_long _ (sym c.holds.ensures.holds ∙ c.if-not-holds.false) (omega (arith, at_length c.args.key.stands, c.if-key-lt44.false)) c.word.ensures
