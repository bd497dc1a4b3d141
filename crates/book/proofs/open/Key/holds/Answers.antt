-- By the front.
use Rattle.std.proofs.Common.{arith, rules}
use Rattle.book.specs.Words.{holds}
use Rattle.book.proofs.AtKey.{at_length, long_enough}
use Rattle.book.proofs.open.Key.holds.Goals as goal

pub returns : goal.returns
unfolding holds
returns c =
    let k = c.args.self.now in
    record { holds = rw (c.is.ensures, at_length k.stands); long = λ e. rw (at_length k.stands) at (long_enough c.is.result c.args.least k.front.len e) }
