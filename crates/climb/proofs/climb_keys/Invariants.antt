-- What is kept from key to key.
use Rattle.std.proofs.Common.{◌≡◌}
use Rattle.climb.proofs.Pass.{Climbing}
use Rattle.climb.proofs.climb_keys.Given as goal

abbrev pub invariant-loop-key : goal.invariant-loop-key
invariant-loop-key l = (l.keys.book.now ≡ l.fn.all.book.now) × Climbing l.fn.all.book.now l.id l.fn.all.left l.fn.all.at l.keys.left l.keys.at l.least l.at l.links

abbrev pub decreases-loop-key : goal.decreases-loop-key
decreases-loop-key l = l.keys.left
