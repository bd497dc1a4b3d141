-- What only contracts of private functions cite.
use Rattle.std.specs.Prelude.{ℕ, suc, cond, ltb, Option, Some, None}
use Rattle.parents.specs.declared.Root.{Root}

-- a root with this number of links to it, where a root is there
unfoldable pub with_links : Option Root → ℕ → Option Root
with_links (Some r) n = Some (record { root = r.root; links = n })
with_links None n = None

-- the root of a child, by its parent's: a link more, and none past 1,024
unfoldable pub root_below : Option Root → Option Root
root_below (Some r) = cond (ltb r.links 1024) (Some (record { root = r.root; links = suc r.links })) None
root_below None = None
