-- What all the keys give is what those that are left give.
use Rattle.std.proofs.Common.{◌≡◌, ◌+◌, ◌-◌, ◌≤◌, length}
use Rattle.book.specs.Refusals.{keys_verdict}
use Rattle.scan.proofs.keys_verdict.Given as goal

abbrev pub invariant-loop : goal.invariant-loop
invariant-loop l = record {
  near : l.at ≤ l.start + length l.book;
  same : keys_verdict l.trees l.book l.count l.start ≡ keys_verdict l.trees l.book (l.count - l.counter) l.at;
}
