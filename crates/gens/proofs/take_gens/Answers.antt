-- By the test.
use Rattle.std.proofs.Common.{◌++◌, ◌∙◌, sym, ap, List, ℕ, append-nil}
use Rattle.findings.proofs.Reports.{reports_as, reports_nil}
use Rattle.pairs.specs.Pairs.{pairs_of}
use Rattle.gens.proofs.Covers.{gens_yes, gens_no, cover_yes, cover_no}
use Rattle.gens.proofs.take_gens.Goals as goal

pub returns-then-not-is_gens-clause-reports : goal.returns-then-not-is_gens-clause-reports
returns-then-not-is_gens-clause-reports c = reports_nil (gens_no _ _ _ (sym c.is_gens.ensures ∙ c.if-not-is_gens.true))

pub returns-then-not-is_gens-clause-put : goal.returns-then-not-is_gens-clause-put
returns-then-not-is_gens-clause-put c =
    let a = c.args in
    let no = cover_no a.book.now.header.device a.key.at _ (sym c.is_gens.ensures ∙ c.if-not-is_gens.true) in
    rw (no, append-nil (pairs_of a.work.now a.n))

pub returns-clause-reports : goal.returns-clause-reports
returns-clause-reports c =
    reports_as (gens_yes _ _ _ (sym c.is_gens.ensures ∙ c.if-not-is_gens.false) c.offset-offset.ensures c.value.ensures) c.show_value.ensures.reports

pub returns-clause-put : goal.returns-clause-put
returns-clause-put c =
    let a = c.args in
    c.put_pair.ensures.n_after
    ∙ ap (λ (l : List ℕ). pairs_of a.work.now a.n ++ l) (cover_yes a.book.now.header.device a.key.at _ (sym c.is_gens.ensures ∙ c.if-not-is_gens.false) c.offset-offset.ensures)
