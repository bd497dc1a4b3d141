-- By its tests.
use Rattle.std.proofs.Common.{◌∙◌, sym, arith}
use Rattle.book.specs.Words.{holds}
use Rattle.book.specs.Turns.{held}
use Rattle.book.proofs.AtKey.{at_length}
use Rattle.claims.proofs.Claims.{claims_short, claims_long, claims_none}
use Rattle.claims.proofs.claims_snapshot.Goals as goal

pub returns-then-not-holds : goal.returns-then-not-holds
unfolding holds
returns-then-not-holds c = claims_none (held c.args.key) (sym c.holds.ensures.holds ∙ c.if-not-holds.true)

pub returns-then-key-lt44 : goal.returns-then-key-lt44
unfolding holds
returns-then-key-lt44 c = claims_short (held c.args.key) (sym c.holds.ensures.holds ∙ c.if-not-holds.false) (omega (arith, at_length c.args.key.stands, c.if-key-lt44.true))

pub word-requires : goal.word-requires
word-requires c = omega (arith, at_length c.args.key.stands, c.if-key-lt44.false)

pub returns : goal.returns
unfolding holds
returns c = claims_long (held c.args.key) (sym c.holds.ensures.holds ∙ c.if-not-holds.false) (omega (arith, at_length c.args.key.stands, c.if-key-lt44.false)) c.word.ensures c.bits_apart.ensures
