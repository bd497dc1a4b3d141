-- `line_by_parent` meets its contract: what is found of the parent leads to each return.
use mathlib.Core.Path.{refl, sym, ◌∙◌}
use native.Mathlib.Omega.{arith}
use Rattle.book.proofs.Maps.{word_is}
use Rattle.parents.proofs.Climb.{top_is, absent_is}
use Rattle.ancestors.proofs.Beside.{lined_top, lined_absent}
use borrow.Author.Rules.{rules}
use Rattle.ancestors.proofs.line_by_parent.Statement.{statement}
use Rattle.ancestors.proofs.line_by_parent.Tie as tie

returns : tie.Need-returns-in_default
returns c =
    (lined_absent _ _ c.requires.1.full _ _ (absent_is _ _ c.parent_in-found.ensures.0 c.in_default.is), (refl, c.parent_in-found.ensures.1))

returns_2 : tie.Need-returns-then-p-eq0
returns_2 c =
    (lined_top _ _ c.requires.1.full _ _ (top_is _ _ c.parent_in-found.ensures.0 c.in-Some.is c.if-p-eq0.true), (refl, c.parent_in-found.ensures.1))

line_under_requires : tie.Need-line_under-requires
line_under_requires c κs =
    ((c.requires.0, c.requires.1, c.parent_in-found.ensures.1), (word_is _ (sym c.parent_in-found.ensures.0 ∙ c.in-Some.is), omega (arith, c.if-p-eq0.false)))

pub line_by_parent_spec : {M : Type 1} → statement M
line_by_parent_spec =
    tie.close
    (tie.spec
    (λ c κs. search rules)
    (λ c. search rules)
    (λ c. search rules)
    returns
    returns_2
    line_under_requires
    (λ c. search rules)
    (λ c. search rules))
