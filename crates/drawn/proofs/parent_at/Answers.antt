-- The word of the key that stands there.
use Rattle.std.proofs.Common.{◌≡◌, sym, arith, length, ℕ}
use Rattle.maps.specs.LastKeys.{word_at}
use Rattle.drawn.proofs.Scan.{at_snapshot}
use Rattle.drawn.proofs.parent_at.Goals as goal

pub read-requires : goal.read-requires
read-requires c = let k = at_snapshot _ c.requires c.in-Some.is in (k.0, k.1, k.2)

pub word-requires : goal.word-requires
word-requires c = rw (c.read.ensures.0, c.read.ensures.1) (at_snapshot _ c.requires c.in-Some.is).3

pub returns-in-Some : goal.returns-in-Some
unfolding word_at
returns-in-Some c = rw (c.in-Some.is, c.word.ensures, c.read.ensures.0, c.read.ensures.1)

pub returns-in-None : goal.returns-in-None
unfolding word_at
returns-in-None c = rw c.in-None.is
