-- `fields::Judged::accounting_junk` meets its contract, by the kind.
use Rattle.fields.proofs.Laws.{junk_btree, junk_snapshot}
use Rattle.fields.proofs.Judged.accounting_junk.Goals as goal

pub returns-in-Some-Btree : goal.returns-in-Some-Btree
returns-in-Some-Btree c = junk_btree _ (rw c.in-Some-Btree.field-0-is at c.in-Some-Btree.ensures)

pub returns-in-Some-Snapshot : goal.returns-in-Some-Snapshot
returns-in-Some-Snapshot c = junk_snapshot _ (rw c.in-Some-Snapshot.field-0-is at c.in-Some-Snapshot.ensures)
