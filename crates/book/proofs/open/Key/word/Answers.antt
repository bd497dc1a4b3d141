use Rattle.std.proofs.Common.{◌≡◌, ◌∙◌, sym, refl, arith, length, ℕ, rules}
use Rattle.book.proofs.AtKey.{at_word, at_end, at_length}
use Rattle.book.proofs.open.Key.word.Goals as goal

pub overflow_add-self-2 : goal.overflow_add-self-2
overflow_add-self-2 c = let k = c.args.self.now.stands in omega (arith, at_end k, at_length k, k.inside, k.small)

pub le32-requires : goal.le32-requires
le32-requires c = let k = c.args.self.now.stands in omega (arith, at_end k, at_length k, k.inside, k.small)

pub returns : goal.returns
returns c = let k = c.args.self.now.stands in c.le32.ensures ∙ at_word k c.args.i 4 (omega (arith, at_length k))
