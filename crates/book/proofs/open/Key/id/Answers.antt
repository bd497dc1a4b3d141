use Rattle.std.proofs.Common.{◌≡◌, ◌∙◌, sym, refl, ap, arith, length, ℕ, List, ◌+◌, take, drop, rules}
use Rattle.book.specs.Words.{id_of}
use Rattle.book.proofs.open.Key.id.Goals as goal

pub returns : goal.returns
unfolding id_of
returns c = rw c.offset.ensures
