-- Whether all rise is whether those that are left do, and `first` is the first word of the entry before them.
use Rattle.std.proofs.Common.{◌≡◌, ◌+◌, ◌-◌, ◌*◌}
use Rattle.scan.specs.Steps.{words_rise}
use Rattle.scan.proofs.Rise.{word}
use Rattle.scan.proofs.words_rise.Given as goal

abbrev pub invariant-loop : goal.invariant-loop
invariant-loop l = record {
  place : l.at ≡ l.start + 32 * l.counter;
  same : words_rise l.book l.count l.start ≡ words_rise l.book (l.count - 4 * l.counter) l.at;
  above : l.first ≡ word l.book l.at;
}
