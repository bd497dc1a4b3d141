-- `fields::Judged::check_inode_v3_word` meets its contract: shorter values are not judged.
use borrow.Author.Tests.{lt-leb, le-leb}
use Rattle.findings.specs.Findings.{only}
use Rattle.findings.proofs.Reports.{reports_more, reports_nil}
use Rattle.fields.specs.CheckKeyFields.{check_inode_v3_word}
use Rattle.fields.proofs.Judged.check_inode_v3_word.Goals as goal

pub returns-then-self-lt48-clause-reports : goal.returns-then-self-lt48-clause-reports
unfolding check_inode_v3_word only
returns-then-self-lt48-clause-reports c = reports_nil (simp (lt-leb 48 _ c.if-self-lt48.true))

pub returns-clause-reports : goal.returns-clause-reports
unfolding check_inode_v3_word only
returns-clause-reports c =
    simp (le-leb 48 _ c.if-self-lt48.false) (rw (← c.le64-word.ensures) (reports_more c.emit_if.ensures.reports c.emit_if-2.ensures.reports))
