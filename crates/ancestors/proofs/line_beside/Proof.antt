-- `line_beside` meets its contract: the same snapshot, its parent, or another.
use Prim.Native.Nat.{◌<◌}
use mathlib.Core.Path.{◌≡◌, refl, sym, ◌∙◌}
use mathlib.Core.Bool.{true}
use lib.ListN.{get_or}
use native.Mathlib.Omega.{arith}
use borrow.Author.Tests.{ltb-true, eqb-true}
use Rattle.pairs.proofs.Order.{both_true}
use Rattle.std.specs.Prelude.{is_some}
use Rattle.ancestors.proofs.Laws.{lined_few}
use Rattle.ancestors.proofs.Beside.{lined_up}
use borrow.Author.Rules.{rules}
use Rattle.ancestors.proofs.line_beside.Statement.{statement}
use Rattle.ancestors.proofs.line_beside.Tie as tie

-- what the test for a child says
test : (c : tie.Then-is_some-line) → let l = c.args.line in
    (is_some l.root ≡ true) × (0 < l.len) × (get_or c.args.ids.now 0 0 ≡ c.args.id)
test c =
    let whole = both_true _ _ c.if-is_some-line.true in
    let both = both_true _ _ whole.0 in
    (sym c.is_some.ensures ∙ both.0, ltb-true _ _ both.1, eqb-true _ _ whole.1)

returns_2 : tie.Need-returns-then-is_some-line
returns_2 c =
    let k = c.before.before.before.before in
    let said = test k in
    let taken = c.take_first.ensures in
    (lined_up _ k.requires.1 said.0 said.1 said.2 taken.0 taken.1 c.with_links-root.ensures, (refl, k.requires.2))

pub line_beside_spec : {M : Type 1} → statement M
line_beside_spec =
    tie.close
    (tie.spec
    (λ c. search rules)
    (λ c κs. search rules)
    (λ c. search rules)
    (λ c. omega (arith, (test c.before).1))
    (λ c κs.
    let t = c.before.before.before.before.before.before.before.before.before.before.before in
    (omega (arith, (test c.before.before).1, lined_few _ t.requires.1), t.requires.1.full))
    (λ c. let t = c in omega (arith, lined_few _ t.requires.1))
    (λ c κs. search rules)
    returns_2
    (λ c κs. search rules)
    (λ c. search rules)
    (λ c. search rules))
