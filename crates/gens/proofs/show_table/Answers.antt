-- Entry after entry.
use Rattle.std.proofs.Common.{◌∙◌, ℕ, [], refl, sym, ap, arith}
use Rattle.findings.proofs.Reports.{reports_nil}
use Rattle.pairs.specs.Pairs.{pairs_of, pair, has}
use Rattle.book.proofs.Walk.{parts}
use Rattle.walk.proofs.Passed.{pass_more, pass_last}
use Rattle.gens.proofs.Covers.{entries_all, entries_next, entries_end, not_covered_lem}
use Rattle.gens.proofs.show_table.Goals as goal

pub loop-i-init : goal.loop-i-init
loop-i-init c =
    let k = c.args.covers in
    record {
      known = c.has-covered.ensures;
      passed = record { passed = []; reports = reports_nil refl; whole = entries_all c.args.book (pairs_of k.words.now k.count) };
      few = omega arith;
    }

pub overflow_add-book : goal.overflow_add-book
overflow_add-book c =
    let p = parts c.args.book.opened in
    record { fits = omega (arith, p.small, p.gens_rise.inside, c.loop-i-test.true) }

pub entry_at-entry-requires : goal.entry_at-entry-requires
entry_at-entry-requires c =
    let p = parts c.args.book.opened in
    (p.small, omega (arith, p.gens_rise.inside, c.loop-i-test.true))

pub loop-i-preserved : goal.loop-i-preserved
loop-i-preserved c =
    let k = c.args.covers in
    let xs = pairs_of k.words.now k.count in
    let l = c.loop-i in
    let cover = c.cover_of-c.ensures in
    let entry = c.entry_at-entry.ensures in
    record {
      known = cover.1 ∙ ap (λ (b : ℕ). has (pair b 0) xs) (sym cover.0);
      passed = pass_more l.invariant.passed c.show_uncovered.ensures.reports
          (entries_next c.args.book xs l.i c.loop-i-test.true (not_covered_lem xs _ _ entry.0 entry.1 cover.1));
      few = omega (arith, l.invariant.few, c.show_uncovered.ensures.few);
    }

pub returns-clause-reports : goal.returns-clause-reports
returns-clause-reports c =
    let k = c.args.covers in
    pass_last c.loop-i.invariant.passed (entries_end c.args.book (pairs_of k.words.now k.count) c.loop-i.i (omega (arith, c.loop-i-test.false)))
