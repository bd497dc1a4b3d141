-- `tables::alloc_entry` meets its contract, by those of `read_entry` and `data_type`.
use borrow.Author.Rules.{rules}
use Rattle.tables.proofs.alloc_entry.Statement.{statement}
use Rattle.tables.proofs.alloc_entry.Tie as tie

returns : tie.Need-returns
returns c = rw (c.data_type-data_type.ensures, c.read_entry-e.ensures)

pub alloc_entry_spec : {M : Type 1} → statement M
alloc_entry_spec =
    tie.close
    (tie.spec
    (λ c κs. search rules)
    (λ c κs. search rules)
    returns)
