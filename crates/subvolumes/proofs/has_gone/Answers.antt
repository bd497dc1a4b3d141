-- Some key is an unavailable subvolume if one of the keys left is.
use Rattle.std.proofs.Common.{◌∙◌, sym, ap}
use Rattle.walk.specs.Keys.{any_key}
use Rattle.subvolumes.specs.SubvolumeStates.{unavailable}
use Rattle.subvolumes.proofs.States.{all_left, any_here, any_next, any_end}
use Rattle.subvolumes.proofs.has_gone.Goals as goal

pub loop-key-init : goal.loop-key-init
loop-key-init c =
    let k = c.keys-key-items in
    rw c.into_iter-key-iterator.ensures.into_iter_gives (ap (any_key unavailable) (all_left c.args.book k.result k.ensures.bytes k.ensures.all))

pub returns-then-is_gone : goal.returns-then-is_gone
returns-then-is_gone c =
    sym (c.loop-key.invariant ∙ any_here unavailable c.loop-key.key-iterator c.next.new.self c.in-Some.key c.in-Some.ensures.steps (sym c.is_gone.ensures ∙ c.if-is_gone.true))

pub loop-key-preserved : goal.loop-key-preserved
loop-key-preserved c =
    c.loop-key.invariant ∙ any_next unavailable c.loop-key.key-iterator c.next.new.self c.in-Some.key c.in-Some.ensures.steps (sym c.is_gone.ensures ∙ c.if-is_gone.false)

pub returns : goal.returns
returns c = sym (c.loop-key.invariant ∙ any_end unavailable c.loop-key.key-iterator c.in-None.ensures.steps)
