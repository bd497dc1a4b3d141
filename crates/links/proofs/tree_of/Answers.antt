-- By the place that was found.
use Rattle.std.proofs.Common.{◌∙◌, sym, arith}
use Rattle.links.proofs.Trees.{ready, ready_small, held_read, held_long, name_held, name_found, name_absent}
use Rattle.links.proofs.tree_of.Goals as goal

pub read-requires : goal.read-requires
read-requires c =
    let r = ready c.args.links.now in
    held_read 9 22 24 (ready_small r) (name_held r c.args.id (sym c.find_snapshot-found.ensures.place ∙ c.in-Some.is))

pub word-requires : goal.word-requires
word-requires c =
    let r = ready c.args.links.now in
    let long = held_long 9 22 24 (ready_small r) (name_held r c.args.id (sym c.find_snapshot-found.ensures.place ∙ c.in-Some.is)) in
    rw (c.read.ensures.0, c.read.ensures.1) (omega (arith, long))

pub returns-in-Some : goal.returns-in-Some
returns-in-Some c =
    name_found (ready c.args.links.now) c.args.id (sym c.find_snapshot-found.ensures.place ∙ c.in-Some.is) (rw (c.read.ensures.0, c.read.ensures.1) at c.word.ensures)

pub returns-in-None : goal.returns-in-None
returns-in-None c = name_absent (ready c.args.links.now) c.args.id (sym c.find_snapshot-found.ensures.place ∙ c.in-None.is)
