-- `tables::read_entry` meets its contract: two steps of the cursor.
use Prim.Native.Nat.{◌-◌, ◌*◌}
use mathlib.Core.Path.{refl}
use Rattle.bits.proofs.Laws.{taken}
use Rattle.book.specs.Book.{entry_at}
use borrow.Author.Rules.{rules}
use Rattle.tables.proofs.read_entry.Statement.{statement}
use Rattle.tables.proofs.read_entry.Tie as tie

returns : tie.Need-returns
unfolding entry_at
returns c =
    let a = c.args in
    let s = a.book.now in
    let first = taken s a.t.first c.take-first.ensures refl in
    let rest = taken s (8 * a.t.size - a.t.first) c.take-rest.ensures first.1 in
    cc (first.0, rest.0)

pub read_entry_spec : {M : Type 1} → statement M
read_entry_spec =
    tie.close
    (tie.spec
    (λ c. search rules)
    (λ c κs. search rules)
    (λ c. search rules)
    (λ c. search rules)
    (λ c κs. search rules)
    returns)
