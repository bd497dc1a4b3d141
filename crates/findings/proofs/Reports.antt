-- Laws of a report: what it holds after one list of findings and then another.
use Rattle.std.proofs.Common.{◌≡◌, ℕ, List, [], ◌++◌, ◌∙◌, refl}
use Rattle.findings.specs.declared.report.Report.{Report}
use Rattle.findings.specs.Findings.{Finding, sink, Added}
use Rattle.findings.specs.Reports.{Reports}
use Rattle.findings.proofs.Laws.{added_more, added_as, added_nil}

pub reports_more : {r s t : Report} {fs gs : List Finding} → Reports r fs s → Reports s gs t → Reports r (fs ++ gs) t
reports_more a b = record { same_buffer = b.same_buffer ∙ a.same_buffer; same_counts = b.same_counts ∙ a.same_counts; added = added_more a.added b.added }

-- the same findings, said otherwise
pub reports_as : {r s : Report} {fs gs : List Finding} → fs ≡ gs → Reports r fs s → Reports r gs s
reports_as e a = record { same_buffer = a.same_buffer; same_counts = a.same_counts; added = added_as e a.added }

-- where the findings are none: nothing changes
pub reports_nil : {r : Report} {fs : List Finding} → fs ≡ [] → Reports r fs r
reports_nil e = record { same_buffer = refl; same_counts = refl; added = added_nil e }
