-- `fields::Judged::check_value` meets its contract: a pair is of one btree and one type.
use Rattle.std.proofs.Common.{◌≡◌, arith}
use Rattle.findings.specs.Findings.{only}
use Rattle.findings.proofs.Reports.{reports_as, reports_nil}
use Rattle.book.specs.Book.{is}
use Rattle.fields.specs.Steps.{check_value}
use Rattle.fields.proofs.Laws.{pair_not, value_accounting, value_inode, value_snapshot, value_alloc}
use Rattle.fields.proofs.Judged.check_value.Goals as goal

pub returns-in-5154-clause-reports : goal.returns-in-5154-clause-reports
returns-in-5154-clause-reports c =
    let h = c.args.self.now.head in
    let btree : h.btree ≡ 20 = omega arith in
    let type : h.key_type ≡ 34 = omega arith in
    reports_as (value_accounting _ _ btree type) c.check_accounting_key.ensures.reports

pub returns-in-285-clause-reports : goal.returns-in-285-clause-reports
returns-in-285-clause-reports c =
    let h = c.args.self.now.head in
    let btree : h.btree ≡ 1 = omega arith in
    let type : h.key_type ≡ 29 = omega arith in
    reports_as (value_inode _ _ btree type) c.check_inode_v3_word.ensures.reports

pub returns-in-2326-clause-reports : goal.returns-in-2326-clause-reports
returns-in-2326-clause-reports c =
    let h = c.args.self.now.head in
    let btree : h.btree ≡ 9 = omega arith in
    let type : h.key_type ≡ 22 = omega arith in
    reports_as (value_snapshot _ _ btree type) c.check_snapshot_pad.ensures.reports

pub returns-in-1051-clause-reports : goal.returns-in-1051-clause-reports
returns-in-1051-clause-reports c =
    let h = c.args.self.now.head in
    let btree : h.btree ≡ 4 = omega arith in
    let type : h.key_type ≡ 27 = omega arith in
    reports_as (value_alloc _ _ btree type) c.check_alloc_v4_value.ensures.reports

pub returns-in_default-clause-reports : goal.returns-in_default-clause-reports
unfolding check_value is only
returns-in_default-clause-reports c =
    let h = c.args.self.now.head in
    reports_nil (simp (
      pair_not 20 34 h.btree h.key_type (λ e. omega arith),
      pair_not 1 29 h.btree h.key_type (λ e. omega arith),
      pair_not 9 22 h.btree h.key_type (λ e. omega arith),
      pair_not 4 27 h.btree h.key_type (λ e. omega arith),
    ))
