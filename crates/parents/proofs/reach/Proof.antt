-- `parents::reach` meets its contract: by the kind of the source.
use Rattle.parents.specs.Sources.{reach_of}
use borrow.Author.Rules.{rules}
use Rattle.parents.proofs.reach.Statement.{statement}
use Rattle.parents.proofs.reach.Tie as tie

enum_known_source : tie.Need-enum_known-source
enum_known_source c = search rules

enum_known_source_2 : tie.Need-enum_known-source-in-Pairs-1
enum_known_source_2 c = search rules

enum_known_source_3 : tie.Need-enum_known-source-in-Keys-1
enum_known_source_3 c = search rules

returns : tie.Need-returns-in-Table
unfolding reach_of
returns c = rw c.in-Table.is

returns_2 : tie.Need-returns-in-Pairs
unfolding reach_of
returns_2 c = rw c.in-Pairs.is

returns_3 : tie.Need-returns-in-Keys
unfolding reach_of
returns_3 c = rw c.in-Keys.is

pub reach_spec : {M : Type 1} → statement M
reach_spec =
    tie.close
    (tie.spec
    enum_known_source
    enum_known_source_2
    enum_known_source_3
    returns
    returns_2
    returns_3)
