-- Pair after pair.
use Rattle.std.proofs.Common.{◌≡◌, ◌∙◌, sym, ap, ℕ, ◌*◌, get_or, arith}
use Rattle.pairs.proofs.Order.{same_or_not}
use Rattle.claims.proofs.run_end.Goals as goal

pub loop-end-init : goal.loop-end-init
loop-end-init c = λ k a l. let w = c.args.pairs.words.now in let same : k ≡ c.args.i = omega arith in ap (λ (j : ℕ). get_or w (2 * j) 0) same

pub returns-then-first-id : goal.returns-then-first-id
returns-then-first-id c =
    record {
      past = omega arith;
      inside = omega arith;
      same = c.loop-end.invariant;
      ends = λ l e. c.if-first-id.true (c.first.ensures ∙ e ∙ sym c.first-id.ensures);
    }

pub loop-end-preserved : goal.loop-end-preserved
loop-end-preserved c =
    let w = c.args.pairs.words.now in
    let here = sym c.first.ensures ∙ c.if-first-id.false ∙ c.first-id.ensures in
    λ k a l. same_or_not k c.loop-end.end (λ x. ap (λ (j : ℕ). get_or w (2 * j) 0) x ∙ here) (λ d. c.loop-end.invariant k a (omega arith))

pub returns : goal.returns
returns c = record { past = omega arith; inside = omega arith; same = λ k a l. c.loop-end.invariant k a (omega arith); ends = λ l. absurd (omega arith) }
