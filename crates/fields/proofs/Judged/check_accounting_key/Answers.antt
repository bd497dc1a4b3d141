-- `fields::Judged::check_accounting_key` meets its contract: one finding after the other, if the kind is one of three.
use Rattle.std.proofs.Common.{◌≡◌, ◌&&◌, Bool, eqb, ap₂, refl, sym, ◌∙◌, arith, tests}
use Rattle.findings.proofs.Reports.{reports_more, reports_as, reports_nil}
use Rattle.fields.specs.CheckKeyFields.{accounting_position_bytes}
use Rattle.fields.specs.Steps.{accounting_number}
use Rattle.fields.proofs.Laws.{not_counted, accounting_nothing, accounting_found}
use Rattle.fields.proofs.Judged.check_accounting_key.Goals as goal

pub returns-in_default-clause-reports : goal.returns-in_default-clause-reports
returns-in_default-clause-reports c =
    reports_nil (accounting_nothing _ _ refl (not_counted _ c.in_default.ensures))

pub returns-then-not-has_counters-clause-reports : goal.returns-then-not-has_counters-clause-reports
returns-then-not-has_counters-clause-reports c =
    reports_nil (accounting_nothing _ _ c.in-Some.ensures (sym c.has_counters.ensures ∙ c.if-not-has_counters.true))

pub returns-clause-reports : goal.returns-clause-reports
unfolding accounting_position_bytes
returns-clause-reports c =
    let replicas : c.eq.result ≡ eqb (accounting_number c.in-Some.kind) 2 = grind (arith, tests) in
    let few = c.counters_bad-bad.ensures in
    reports_as
    (accounting_found _ _ c.in-Some.ensures (sym c.has_counters.ensures ∙ c.if-not-has_counters.false) c.accounting_position_bytes-bytes.ensures
    c.junk_at_end.ensures (ap₂ (λ (a b : Bool). a && b) replicas c.replicas_entry_refused.ensures) few)
    (reports_more c.emit_if.ensures.reports (reports_more c.emit_if-2.ensures.reports c.emit_if-3.ensures.reports))
