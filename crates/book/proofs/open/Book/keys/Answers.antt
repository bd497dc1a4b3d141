use Rattle.std.proofs.Common.{◌≡◌, ◌∙◌, sym, refl, arith, length, ℕ, rules}
use Rattle.book.proofs.Walk.{parts}
use Rattle.book.proofs.open.Book.keys.Goals as goal

pub invariant_of-result : goal.invariant_of-result
invariant_of-result c = let p = parts c.args.self.now.opened in record { small = p.small; fit = p.keys_fit }
