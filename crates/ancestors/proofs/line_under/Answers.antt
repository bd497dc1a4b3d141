-- The parent is the line's snapshot, or that one's parent, or the chain is walked.
use Rattle.std.proofs.Common.{◌≡◌, refl, arith}
use borrow.Author.Tests.{ltb-true, eqb-true}
use Rattle.pairs.proofs.Order.{both_true}
use Rattle.parents.proofs.Links.{link_to}
use Rattle.ancestors.proofs.Laws.{lined_few}
use Rattle.ancestors.proofs.Beside.{lined_down, lined_beside}
use Rattle.ancestors.proofs.line_under.Goals as goal

pub returns-then-p-line : goal.returns-then-p-line
returns-then-p-line c =
    let put = c.put_first.ensures in
    let r = c.requires in
    record {
      lined = lined_down _ r.sourced.1 (link_to _ _ r.book_value.0 (λ e. omega (arith, r.book_value.1))) c.if-p-line.true c.min-len.ensures put.0 put.1 c.root_below-root.ensures;
      same = (refl, r.sourced.2);
    }

pub returns-then-len-ids : goal.returns-then-len-ids
returns-then-len-ids c =
    let both = both_true _ _ c.if-len-ids.true in
    let r = c.requires in
    record {
      lined = lined_beside _ r.sourced.1 (link_to _ _ r.book_value.0 (λ e. omega (arith, r.book_value.1))) (ltb-true _ _ both.0) (eqb-true _ _ both.1);
      same = (refl, r.sourced.2);
    }
