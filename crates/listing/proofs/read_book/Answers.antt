-- Each turn goes on by the bytes of a read, which are as many as there is room for or fewer.
use Rattle.std.proofs.Common.{sym, ◌∙◌, arith}
use Rattle.report.proofs.Reading.{gave_most}
use Rattle.listing.proofs.read_book.Goals as goal

pub overflow_add-n : goal.overflow_add-n
overflow_add-n c = omega (arith, gave_most _ _ _ (sym c.gave.ensures ∙ c.in_ok-more.was))

pub loop-n-preserved : goal.loop-n-preserved
loop-n-preserved c = (omega (arith, gave_most _ _ _ (sym c.gave.ensures ∙ c.in_ok-more.was)), omega arith)
