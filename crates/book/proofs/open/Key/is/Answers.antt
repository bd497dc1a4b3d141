use Rattle.book.proofs.AtKey.{at_is}
use Rattle.book.proofs.open.Key.is.Goals as goal

pub returns : goal.returns
returns c = at_is c.args.self.now.stands c.args.btree c.args.key_type
