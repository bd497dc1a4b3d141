-- The rules one after the other.
use Prim.Native.Nat.{ℕ, ◌<◌, ◌^◌}
use mathlib.Core.Path.{◌≡◌, refl, ap, ◌∙◌}
use mathlib.Core.Bool.{false, not}
use mathlib.Core.List.{List, [], ◌++◌, append_assoc}
use lib.ListN.{length}
use lib.Dec.{eqb}
use native.Mathlib.Omega.{arith}
use borrow.Author.Tests.{eqb-true, not-false}
use Rattle.findings.specs.declared.report.Report.{Report}
use Rattle.findings.specs.Findings.{Finding, sink, put, Found, Counted, each}
use Rattle.findings.specs.Reports.{Reports}
use Rattle.findings.proofs.Laws.{found_counted}
use Rattle.book.specs.declared.Header.{Header}
use Rattle.book.specs.declared.Places.{Places}
use Rattle.book.specs.Book.{table_from, Book, book_of}
use Rattle.book.specs.Walk.{Opened}
use Rattle.book.proofs.Walk.{parts}
use Rattle.subvolumes.specs.SubvolumeStates.{subvolume_states}
use Rattle.claims.specs.SnapshotClaims.{snapshot_claims}
use Rattle.deletions.specs.SnapshotStates.{snapshot_states}
use Rattle.snapshots.specs.SnapshotSubvolFlags.{snapshot_subvol_flags}
use Rattle.children.specs.SubvolumeChildren.{subvolume_children}
use Rattle.keys.specs.KeyFindings.{key_findings}
use Rattle.rules.specs.Rules.{findings_of}
use Rattle.judge.specs.Steps.{subvolume_rules, snapshot_rules, first_rules, last_rules, across_rules}

-- what is reported is counted by kind
pub reports_counted : {r s : Report} {fs : List Finding} → Reports r fs s → s.found < 2 ^ 64 → Counted r.counts.now fs s.counts.now
reports_counted {r} {s} {fs} a few =
    let whole : Found (sink [] r.counts.now) fs (length fs) (sink (put [] fs) s.counts.now) =
    record { count = refl; buffer = refl; counts = a.added.counts; encodable = a.added.encodable } in
    found_counted whole (omega (arith, a.added.count))

-- the parts are the whole list
pub list_of : (b : Book) → each (key_findings b) 0 b.keys ++ across_rules b ≡ findings_of b
unfolding across_rules subvolume_rules snapshot_rules first_rules last_rules findings_of
list_of b =
    ap (λ (l : List Finding). each (key_findings b) 0 b.keys ++ l)
    (append_assoc (subvolume_states b ++ snapshot_claims b) ((snapshot_states b ++ snapshot_subvol_flags b) ++ subvolume_children b) (last_rules b)
    ∙ append_assoc (subvolume_states b) (snapshot_claims b) (((snapshot_states b ++ snapshot_subvol_flags b) ++ subvolume_children b) ++ last_rules b)
    ∙ ap (λ (l : List Finding). subvolume_states b ++ (snapshot_claims b ++ l))
    (append_assoc (snapshot_states b ++ snapshot_subvol_flags b) (subvolume_children b) (last_rules b)
    ∙ append_assoc (snapshot_states b) (snapshot_subvol_flags b) (subvolume_children b ++ last_rules b)))

-- a table of no entries
pub no_gens : {s : List ℕ} {h : Header} {at : Places} → Opened s h at → not (eqb h.gens 0) ≡ false → (book_of s).gens ≡ []
unfolding table_from
no_gens {s} {h} {at} o e = rw (eqb-true h.gens 0 (not-false _ e)) at (parts o).gens
