-- The keys that were passed have their pairs.
use Rattle.std.proofs.Common.{◌≡◌, ◌+◌, ◌≤◌, length}
use Rattle.walk.specs.Keys.{gather}
use Rattle.walk.proofs.Puts.{Put}
use Rattle.walk.proofs.put.put_pairs.Given as goal

abbrev pub invariant-loop-key : goal.invariant-loop-key
invariant-loop-key g l = record {
  put : Put g.of (gather g.of l.fn.book.bytes.now l.fn.book.header.keys l.fn.book.places.keys) l.key-iterator l.work l.n;
  few : l.n + l.key-iterator.left ≤ l.fn.book.header.keys;
}
