-- The place among the first fields is the place in the map.
use Rattle.std.proofs.Common.{sym}
use Rattle.book.specs.Book.{data_type_of, alloc_table}
use Rattle.tables.proofs.Found.{bound_is}
use Rattle.tables.proofs.alloc_near.Goals as goal

pub returns : goal.returns
returns c =
    let a = c.args in
    let place = c.lower_bound_near.ensures in
    (sym (bound_is data_type_of alloc_table a.book.now a.count a.start a.bucket c.lower_bound_near.result place), place.inside)
