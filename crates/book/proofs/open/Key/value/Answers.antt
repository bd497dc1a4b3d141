use Rattle.std.proofs.Common.{◌≡◌, ◌∙◌, sym, refl, ap, arith, length, ℕ, List, ◌+◌, take, drop, rules}
use Rattle.book.specs.Book.{key_head}
use Rattle.book.proofs.AtKey.{at_value}
use Rattle.book.proofs.open.Key.value.Goals as goal

pub returns : goal.returns
returns c = at_value c.args.self.now.stands
