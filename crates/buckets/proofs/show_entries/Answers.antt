-- The gap, entry after entry.
use Rattle.std.proofs.Common.{◌≡◌, ◌+◌, ◌-◌, ◌*◌, ℕ, List, ap, ap₂, sym, ◌∙◌, ◌<◌, refl, arith}
use Rattle.walk.proofs.Passed.{pass_first, pass_more, pass_last}
use Rattle.book.specs.declared.AllocEntry.{AllocEntry}
use Rattle.book.specs.Book.{alloc_from}
use Rattle.buckets.proofs.Ranges.{below_step}
use Rattle.buckets.proofs.Gaps.{gap_next, gap_end}
use Rattle.buckets.proofs.show_entries.Goals as goal

-- the entries from the first on, and from number i + 1 on
entries_first : (s : List ℕ) (count start : ℕ) → alloc_from s (count - 0) (start + 0) ≡ alloc_from s count start
entries_first s count start = ap₂ (alloc_from s) (omega arith) (omega arith)

entries_next : (s : List ℕ) (count start i : ℕ) → alloc_from s (count - i - 1) (start + i * 10 + 10) ≡ alloc_from s (count - (i + 1)) (start + (i + 1) * 10)
entries_next s count start i = ap₂ (alloc_from s) (omega arith) (omega arith)

pub loop-i-init : goal.loop-i-init
loop-i-init c =
    let a = c.args in
    let e = entries_first a.book.now a.count a.start in
    record { passed = rw e pass_first; few = omega arith; below = rw e c.requires.2 }

pub loop-i-preserved : goal.loop-i-preserved
loop-i-preserved c =
    let a = c.args in
    let s = a.book.now in
    let l = c.loop-i in
    let e = entries_next s a.count a.start l.i in
    let more : 0 < a.count - l.i = omega (arith, c.loop-i-test.true) in
    record {
      passed = pass_more l.invariant.passed c.show_entry.ensures.reports (rw e at (gap_next s l.at (a.count - l.i) (a.start + l.i * 10) a.to more c.alloc_entry-e.ensures));
      few = omega (arith, c.show_entry.ensures.few, l.invariant.few);
      below = rw e at (below_step a.to (a.count - l.i) (a.start + l.i * 10) s more l.invariant.below).1;
    }

pub returns-clause-reports : goal.returns-clause-reports
returns-clause-reports c =
    let a = c.args in
    let l = c.loop-i in
    let end = gap_end a.book.now l.at (a.start + l.i * 10) a.to {n = a.count - l.i} (omega (arith, c.loop-i-test.false)) in
    pass_last (pass_more l.invariant.passed c.emit_if.ensures.reports end) refl

pub overflow_add-at : goal.overflow_add-at
overflow_add-at c =
    let a = c.args in
    let l = c.loop-i in
    omega (arith, ap (λ (e : AllocEntry). e.bucket) c.alloc_entry-e.ensures, (below_step a.to (a.count - l.i) (a.start + l.i * 10) a.book.now (omega (arith, c.loop-i-test.true)) l.invariant.below).0)
