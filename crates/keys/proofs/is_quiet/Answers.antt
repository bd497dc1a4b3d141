-- The front, then the two words of the head.
use Rattle.std.proofs.Common.{arith}
use Rattle.book.proofs.AtKey.{at_inside}
use Rattle.keys.proofs.Quiet.{quiet_not, quiet_by}
use Rattle.keys.proofs.is_quiet.Goals as goal

pub returns-then-not-key-filed : goal.returns-then-not-key-filed
returns-then-not-key-filed c = quiet_not c.args.key.stands c.if-not-key-filed.true

pub head_word-size-requires : goal.head_word-size-requires
head_word-size-requires c = let k = at_inside c.args.key.stands in (k.1, omega (arith, k), omega arith)

pub head_word-snapshot-requires : goal.head_word-snapshot-requires
head_word-snapshot-requires c = let k = at_inside c.args.key.stands in (k.1, omega (arith, k), omega arith)

pub returns : goal.returns
returns c = quiet_by c.args.key.stands c.if-not-key-filed.false c.head_word-size.ensures c.head_word-snapshot.ensures
