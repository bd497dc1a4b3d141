-- `lines::line_end` meets its contract: the first newline, or the end of the text.
use Rattle.std.proofs.Common.{ℕ, ◌≡◌, ◌+◌, ◌-◌, length, drop, ap, ◌∙◌, arith, rules, tests, length-drop, take_all}
use Rattle.std.proofs.lemmas.Iterator.{IsFirst-from_position, YieldsList-from_slice}
use Rattle.lines.proofs.Lines.{line_found, line_whole}
use Rattle.lines.proofs.line_end.Goals as goal

pub returns-in-Some-clause-end : goal.returns-in-Some-clause-end
returns-in-Some-clause-end c =
    let text = c.args.text.now in
    let rest = drop c.args.from text in
    let part = c.iter.ensures.rest ∙ take_all (length text - c.args.from) rest (omega (arith, length-drop c.args.from text)) in
    let first = IsFirst-from_position _ _ _ (λ x. x ≡ 10) (λ x. x ≡ 10 → ⊥) c.position.ensures.ran (YieldsList-from_slice rest part) (λ x q k. search (rules, tests)) (λ x q k. search (rules, tests)) in
    let found = rw c.in-Some.is at first in
    ap (λ (n : ℕ). c.args.from + n) (line_found rest c.in-Some.length found.0 found.1 found.2)

pub returns-in-None-clause-end : goal.returns-in-None-clause-end
returns-in-None-clause-end c =
    let text = c.args.text.now in
    let rest = drop c.args.from text in
    let part = c.iter.ensures.rest ∙ take_all (length text - c.args.from) rest (omega (arith, length-drop c.args.from text)) in
    let first = IsFirst-from_position _ _ _ (λ x. x ≡ 10) (λ x. x ≡ 10 → ⊥) c.position.ensures.ran (YieldsList-from_slice rest part) (λ x q k. search (rules, tests)) (λ x q k. search (rules, tests)) in
    omega (arith, length-drop c.args.from text, line_whole rest (rw c.in-None.is at first))
