-- `parents::parent_in` meets its contract: by the kind of the source.
use native.Mathlib.Omega.{arith}
use Rattle.parents.proofs.Sources.{by_table, by_pairs, by_keys, table_reach, pairs_reach, table_found}
use borrow.Author.Rules.{rules}
use Rattle.parents.proofs.parent_in.Statement.{statement}
use Rattle.parents.proofs.parent_in.Tie as tie

enum_known_source : tie.Need-enum_known-source
enum_known_source c = search rules

parent_of_requires : tie.Need-parent_of-requires
parent_of_requires c κs = let t = c in ((by_table _ _ t.requires.0 c.in-Table.is).rises, omega (arith, t.requires.1, table_reach _ _ c.in-Table.is))

enum_known_source_2 : tie.Need-enum_known-source-in-Pairs-1
enum_known_source_2 c = search rules

parent_by_pairs_requires : tie.Need-parent_by_pairs-requires
parent_by_pairs_requires c κs = let t = c in (by_pairs _ _ t.requires.0 c.in-Pairs.is, omega (arith, t.requires.1, pairs_reach _ c.in-Pairs.is))

enum_known_source_3 : tie.Need-enum_known-source-in-Keys-1
enum_known_source_3 c = search rules

parent_by_keys_requires : tie.Need-parent_by_keys-requires
parent_by_keys_requires c κs = by_keys _ _ c.requires.0 c.in-Keys.is

returns : tie.Need-returns-in-Table
returns c = let t = c in (table_found t.args.id (by_table _ _ t.requires.0 c.in-Table.is) c.parent_of.ensures.0, omega (arith, c.parent_of.ensures.1, table_reach _ _ c.in-Table.is))

returns_2 : tie.Need-returns-in-Pairs
returns_2 c = (c.parent_by_pairs.ensures.0, omega (arith, c.parent_by_pairs.ensures.1, pairs_reach _ c.in-Pairs.is))

returns_3 : tie.Need-returns-in-Keys
returns_3 c = let t = c in (c.parent_by_keys.ensures.0, omega (arith, c.parent_by_keys.ensures.1, t.requires.1))

pub parent_in_spec : {M : Type 1} → statement M
parent_in_spec =
    tie.close
    (tie.spec
    enum_known_source
    parent_of_requires
    enum_known_source_2
    parent_by_pairs_requires
    enum_known_source_3
    parent_by_keys_requires
    returns
    returns_2
    returns_3)
