-- Those of the range are those from its start on without those from its end on.
use Rattle.std.proofs.Common.{ℕ, ◌-◌, ◌∙◌, ap, length, arith}
use lib.Dec.{leb}
use Rattle.buckets.proofs.Marks.{not_less, used_range, used_order, used_most}
use Rattle.buckets.proofs.used_in.Goals as goal

pub used_from-a-requires : goal.used_from-a-requires
used_from-a-requires c =
    (omega arith, omega arith, omega arith, not_less (leb c.args.n 512) (length c.args.marks.now) 514 c.if-n-marks.false, c.requires.3, omega arith)

pub used_from-b-requires : goal.used_from-b-requires
used_from-b-requires c =
    (omega arith, omega arith, omega arith, not_less (leb c.args.n 512) (length c.args.marks.now) 514 c.if-n-marks.false, c.requires.3, omega arith)

pub overflow_sub-number : goal.overflow_sub-number
overflow_sub-number c =
    let a = c.args in
    used_order a.book.now a.start a.count a.low a.n (omega arith) c.used_from-a.ensures c.used_from-b.ensures

pub returns-clause-used : goal.returns-clause-used
returns-clause-used c =
    let a = c.args in
    ap (λ (f : ℕ). record { count = c.used_from-a.result.count - c.used_from-b.result.count; first = f }) c.choose-first.ensures
    ∙ used_range a.book.now a.start a.count a.low a.n a.none (omega arith) c.used_from-a.ensures c.used_from-b.ensures

pub returns-clause-few : goal.returns-clause-few
returns-clause-few c =
    let a = c.args in
    used_most _ _ _ _
    (ap (λ (f : ℕ). record { count = c.used_from-a.result.count - c.used_from-b.result.count; first = f }) c.choose-first.ensures
    ∙ used_range a.book.now a.start a.count a.low a.n a.none (omega arith) c.used_from-a.ensures c.used_from-b.ensures)
