-- A place is below 2 ^ 32.
use Rattle.std.proofs.Common.{arith}
use Rattle.book.proofs.AtKey.{at_inside}
use Rattle.drawn.proofs.place_pair.Goals as goal

pub overflow_add-result : goal.overflow_add-result
overflow_add-result c = let k = at_inside c.args.key.stands in record { fits = omega (arith, k.0, k.1, c.requires) }
