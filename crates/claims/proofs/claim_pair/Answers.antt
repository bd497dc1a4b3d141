-- By the test.
use Rattle.std.proofs.Common.{◌∙◌, sym, arith}
use Rattle.book.specs.Turns.{held}
use Rattle.claims.specs.Steps.{claim_pair}
use Rattle.claims.proofs.Claims.{claims_word}
use Rattle.claims.proofs.claim_pair.Goals as goal

pub word-requires : goal.word-requires
word-requires c = omega (arith, claims_word (held c.args.key) (sym c.claims_snapshot.ensures ∙ c.if-claims_snapshot.true))

pub returns-then-claims_snapshot : goal.returns-then-claims_snapshot
unfolding claim_pair
returns-then-claims_snapshot c = rw (sym c.claims_snapshot.ensures ∙ c.if-claims_snapshot.true, c.word.ensures)

pub returns : goal.returns
unfolding claim_pair
returns c = rw (sym c.claims_snapshot.ensures ∙ c.if-claims_snapshot.false)
