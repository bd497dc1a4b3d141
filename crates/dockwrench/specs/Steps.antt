-- What only contracts of private functions cite.
use Rattle.std.specs.Prelude.{cond}
use Rattle.book.specs.declared.Header.{Header}
use Rattle.book.specs.declared.Places.{Places}
use Rattle.parents.specs.declared.Source.{Source}
use Rattle.parents.specs.declared.Source.TheVariants.{Table, Keys}

-- where a question finds the parents
unfoldable pub asked_source : Header → Places → Source
asked_source h at = cond h.drawn (Keys at.keys h.keys) (Table at.parents h.parents)
