-- The parents are found where `asked_source` says.
use Rattle.dockwrench.proofs.Laws.{asked_sourced}
use Rattle.dockwrench.proofs.root_above.Goals as goal

pub root_above-requires : goal.root_above-requires
root_above-requires c = asked_sourced _ _ c.args.book.opened c.asked_source.ensures
