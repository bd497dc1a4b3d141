-- `states::state_distance` meets its contract: from the last state to the first.
use Rattle.std.proofs.Common.{rules}
use Rattle.std.proofs.lemmas.Iterator.Consumers.{fold_from_yields_List}
use Rattle.std.proofs.lemmas.Iterator.Adapters.{YieldsList-from_rev_slice}
use Rattle.states.proofs.Bits.{nearest_of, fold_states}
use Rattle.states.proofs.state_distance.Goals as goal

pub returns : goal.returns
returns c =
    let word = c.args.word in
    let states = c.args.states.now in
    let folded = fold_from_yields_List _ (nearest_of word) _ _ c.fold.ensures.ran (YieldsList-from_rev_slice states cc) (λ a x b q called. search rules) in
    fold_states word states folded
