-- Pair after pair of the group.
use Rattle.std.proofs.Common.{◌≡◌}
use Rattle.findings.specs.Findings.{sink}
use Rattle.findings.specs.Reports.{kind_number}
use Rattle.subvolumes.proofs.Groups.{Shown}
use Rattle.subvolumes.proofs.show_group.Given as goal

abbrev pub invariant-loop-i : goal.invariant-loop-i
invariant-loop-i l =
    let st = l.fn.states in
    record {
      shown : Shown st.book.bytes.now st.pairs.words.now st.pairs.count (kind_number l.kind) l.group l.id l.from (sink l.fn.report.buffer.now l.fn.report.counts.now) l.fn.report.found l.i l.report.found (sink l.report.buffer.now l.report.counts.now);
      same_buffer : l.report.buffer.ghost_name ≡ l.fn.report.buffer.ghost_name;
      same_counts : l.report.counts.ghost_name ≡ l.fn.report.counts.ghost_name;
    }
