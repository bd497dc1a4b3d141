-- A loop that reports: the findings `all` are those reported and the rest.
use Rattle.std.proofs.Common.{◌≡◌, List, [], ◌++◌, refl, sym, ap, ◌∙◌, append_assoc, append-nil}
use Rattle.findings.specs.declared.report.Report.{Report}
use Rattle.findings.specs.Findings.{Finding}
use Rattle.findings.specs.Reports.{Reports}
use Rattle.findings.proofs.Reports.{reports_more, reports_as, reports_nil}

pub record Passed (all rest : List Finding) (r₀ r : Report) : Type 0 where
  pub passed : List Finding
  pub reports : Reports r₀ passed r
  pub whole : all ≡ passed ++ rest

pub pass_first : {all : List Finding} {r : Report} → Passed all all r r
pass_first = record { passed = []; reports = reports_nil refl; whole = refl }

pub pass_more : {all rest fs gs : List Finding} {r₀ r s : Report} → Passed all rest r₀ r → Reports r fs s → rest ≡ fs ++ gs → Passed all gs r₀ s
pass_more {fs = fs} {gs = gs} p a e =
    record {
      passed = p.passed ++ fs;
      reports = reports_more p.reports a;
      whole = p.whole ∙ ap (λ (l : List Finding). p.passed ++ l) e ∙ sym (append_assoc p.passed fs gs);
    }

pub pass_last : {all rest : List Finding} {r₀ r : Report} → Passed all rest r₀ r → rest ≡ [] → Reports r₀ all r
pass_last p e = reports_as (sym (p.whole ∙ rw (e, append-nil))) p.reports
