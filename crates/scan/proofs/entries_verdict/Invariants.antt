-- What the whole table gives is what its entries that are left give, and `previous` is the first field of the entry before them.
use Rattle.std.proofs.Common.{◌≡◌, ◌+◌, ◌-◌, ◌≤◌, length}
use Rattle.book.specs.Refusals.{table_verdict}
use Rattle.scan.specs.Steps.{FirstBefore}
use Rattle.scan.proofs.entries_verdict.Given as goal

abbrev pub invariant-loop : goal.invariant-loop
invariant-loop l = record {
  near : l.at ≤ l.start + length l.book;
  same : table_verdict l.t l.book l.start l.count l.start ≡ table_verdict l.t l.book l.start (l.count - l.counter) l.at;
  before : FirstBefore l.t l.book l.start l.at l.previous;
}
