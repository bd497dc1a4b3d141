-- By the place that was found.
use Rattle.std.proofs.Common.{◌∙◌, sym, arith}
use Rattle.links.proofs.Trees.{ready, ready_small, held_read, held_long, tree_held, root_found, root_absent}
use Rattle.links.proofs.tree_root.Goals as goal

pub read-requires : goal.read-requires
read-requires c =
    let r = ready c.args.links.now in
    held_read 15 31 8 (ready_small r) (tree_held r c.args.id (sym c.find_place.ensures ∙ c.in-Some.is))

pub word-requires : goal.word-requires
word-requires c =
    let r = ready c.args.links.now in
    let long = held_long 15 31 8 (ready_small r) (tree_held r c.args.id (sym c.find_place.ensures ∙ c.in-Some.is)) in
    rw (c.read.ensures.0, c.read.ensures.1) (omega (arith, long))

pub returns-in-Some : goal.returns-in-Some
returns-in-Some c =
    root_found (ready c.args.links.now) c.args.id (sym c.find_place.ensures ∙ c.in-Some.is) (rw (c.read.ensures.0, c.read.ensures.1) at c.word.ensures)

pub returns-in-None : goal.returns-in-None
returns-in-None c = root_absent (ready c.args.links.now) c.args.id (sym c.find_place.ensures ∙ c.in-None.is)
