-- The id is in the set if it is in the set of the keys left.
use Rattle.std.proofs.Common.{◌∙◌, sym, ap, refl}
use Rattle.std.proofs.lemmas.Bool.{eq-eqb, ne_eqb}
use Rattle.subvolumes.specs.SubvolumeStates.{is_unavailable}
use Rattle.subvolumes.proofs.States.{all_left, gone_here, gone_next, gone_end}
use Rattle.subvolumes.proofs.is_unavailable.Goals.{else-is_gone-via-then-is_gone+else-offset-id, else-is_gone-via-else-is_gone}
use Rattle.subvolumes.proofs.is_unavailable.Goals as goal

pub loop-key-init : goal.loop-key-init
loop-key-init c =
    let k = c.keys-key-items in
    rw c.into_iter-key-iterator.ensures.into_iter_gives (ap (is_unavailable c.args.id) (all_left c.args.book k.result k.ensures.bytes k.ensures.all))

pub returns-then-offset-id : goal.returns-then-offset-id
returns-then-offset-id c =
    sym (c.loop-key.invariant ∙ gone_here c.args.id c.loop-key.key-iterator c.next.new.self c.in-Some.key c.in-Some.ensures.steps c.is_gone.ensures c.offset.ensures (rw (c.if-is_gone.true, eq-eqb _ _ c.if-offset-id.true) refl))

pub loop-key-preserved : goal.loop-key-preserved
loop-key-preserved c = elim c.else-is_gone.branch [
  | else-is_gone-via-then-is_gone+else-offset-id w ↦
      c.loop-key.invariant
      ∙ gone_next c.args.id c.loop-key.key-iterator c.next.new.self c.in-Some.key c.in-Some.ensures.steps c.is_gone.ensures w.offset.ensures (rw (w.if-is_gone.true, ne_eqb _ _ w.if-offset-id.false) refl)
  | else-is_gone-via-else-is_gone w ↦
      c.loop-key.invariant
      ∙ gone_next c.args.id c.loop-key.key-iterator c.next.new.self c.in-Some.key c.in-Some.ensures.steps c.is_gone.ensures refl (rw w.if-is_gone.false refl)
]

pub returns : goal.returns
returns c = sym (c.loop-key.invariant ∙ gone_end c.args.id c.loop-key.key-iterator c.in-None.ensures.steps)
