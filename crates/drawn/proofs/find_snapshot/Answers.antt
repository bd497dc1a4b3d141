-- A pair that is alone is the last, else class after class is looked for.
use Rattle.std.proofs.Common.{◌≡◌, ◌∙◌, ap, sym, arith, ℕ, ◌*◌, ◌^◌, ◌≤◌, ◌%◌}
use Rattle.std.specs.Prelude.{Some}
use Rattle.pairs.specs.declared.SortedPairs.{SortedPairs}
use Rattle.pairs.specs.Pairs.{pair, pairs_of, count_below}
use Rattle.pairs.proofs.Words.{pairs_bound}
use Rattle.drawn.proofs.Alone.{alone_found}
use Rattle.drawn.proofs.find_snapshot.Goals as goal

-- the bound is among the pairs
inside : (ps : SortedPairs) (id : ℕ) {r : ℕ} → r ≡ count_below (pair id 17179869184) (pairs_of ps.words.now ps.count) → r ≤ ps.count
inside ps id e = omega (arith, e, pairs_bound (pair id 17179869184) ps.words.now ps.count)

pub is_alone-requires : goal.is_alone-requires
is_alone-requires c = (inside c.args.pairs c.args.id c.lower_bound_near-at.ensures, c.requires.1)

pub second-requires : goal.second-requires
second-requires c = omega (arith, inside c.args.pairs c.args.id c.lower_bound_near-at.ensures, (c.is_alone.ensures c.if-is_alone.true).some)

pub find_each-place-requires : goal.find_each-place-requires
find_each-place-requires c = (c.requires.0, c.requires.1, inside c.args.pairs c.args.id c.lower_bound_near-at.ensures)

pub returns-then-is_alone-clause-place : goal.returns-then-is_alone-clause-place
returns-then-is_alone-clause-place c =
    let a = c.args in
    let e = c.lower_bound_near-at.ensures in
    ap Some (ap (λ (y : ℕ). y % 2 ^ 32) c.second.ensures)
    ∙ alone_found a.class a.id c.requires.0 c.requires.1 a.pairs.words.now a.pairs.count c.lower_bound_near-at.result a.pairs.sorted e (inside a.pairs a.id e) (c.is_alone.ensures c.if-is_alone.true)

pub returns-then-is_alone-clause-at : goal.returns-then-is_alone-clause-at
returns-then-is_alone-clause-at c = inside c.args.pairs c.args.id c.lower_bound_near-at.ensures

pub returns-else-is_alone-clause-at : goal.returns-else-is_alone-clause-at
returns-else-is_alone-clause-at c = inside c.args.pairs c.args.id c.lower_bound_near-at.ensures
