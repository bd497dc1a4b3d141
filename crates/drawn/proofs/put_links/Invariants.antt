-- The pairs are those of links.
use Rattle.drawn.specs.Classes.{link_pair}
use Rattle.drawn.proofs.put_links.Given as goal

abbrev pub ghost-put_pairs : goal.ghost-put_pairs
ghost-put_pairs a = link_pair
