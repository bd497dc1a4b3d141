-- Whether all rise is whether those that are left do.
use Rattle.std.proofs.Common.{◌≡◌, ◌+◌, ◌-◌, ◌*◌}
use Rattle.scan.specs.Steps.{words_rise}
use Rattle.scan.proofs.each_rise.Given as goal

abbrev pub invariant-loop : goal.invariant-loop
invariant-loop l =
    record { place : l.at ≡ l.start + 8 * l.counter; same : words_rise l.book l.count l.start ≡ words_rise l.book (l.count - l.counter) l.at }
