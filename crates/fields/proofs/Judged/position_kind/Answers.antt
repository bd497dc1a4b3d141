-- `fields::Judged::position_kind` meets its contract: a pair is of one btree and one type.
use Rattle.std.proofs.Common.{not, eqb, refl, sym, append-nil, arith}
use Rattle.findings.specs.declared.kind.Kind.TheVariants.{InodePosInodeNonzero, SubvolPosBad, SnapshotPosBad, ReflinkVPosBad, ReflinkPFrontPadBad, InodeAllocCursorInodeBad, SnapshotTreePosBad, AccountingKeyJunkAtEnd, BackpointerLevelBad, XattrValSizeTooSmall}
use Rattle.findings.specs.Findings.{when}
use Rattle.book.specs.Book.{is}
use Rattle.fields.specs.CheckKeyFields.{bad_id, accounting_junk, accounting_kind, check_position}
use Rattle.fields.specs.Steps.{judged}
use Rattle.fields.proofs.Laws.{pair_not, position_is}
use Rattle.fields.proofs.Judged.position_kind.Goals as goal

pub returns-in-285 : goal.returns-in-285
unfolding check_position is when bad_id accounting_junk accounting_kind
returns-in-285 c =
    position_is c.args.self.now.index (judged c.args.self.now) 1 29 InodePosInodeNonzero (not (eqb c.args.self.now.head.inode 0)) c.pair.ensures.value c.in-285.is (omega arith) tt refl refl c.then_some.ensures

pub returns-in-2069 : goal.returns-in-2069
unfolding check_position is when bad_id accounting_junk accounting_kind
returns-in-2069 c =
    position_is c.args.self.now.index (judged c.args.self.now) 8 21 SubvolPosBad _ c.pair.ensures.value c.in-2069.is (omega arith) tt refl c.bad_id.ensures c.then_some-in-2069.ensures

pub returns-in-2326 : goal.returns-in-2326
unfolding check_position is when bad_id accounting_junk accounting_kind
returns-in-2326 c =
    position_is c.args.self.now.index (judged c.args.self.now) 9 22 SnapshotPosBad _ c.pair.ensures.value c.in-2326.is (omega arith) tt refl c.bad_id-in-2326.ensures c.then_some-in-2326.ensures

pub returns-in-1808 : goal.returns-in-1808
unfolding check_position is when bad_id accounting_junk accounting_kind
returns-in-1808 c =
    position_is c.args.self.now.index (judged c.args.self.now) 7 16 ReflinkVPosBad (not (eqb c.args.self.now.head.inode 0)) c.pair.ensures.value c.in-1808.is (omega arith) tt refl refl c.then_some-in-1808.ensures

pub returns-in-15 : goal.returns-in-15
unfolding check_position is when bad_id accounting_junk accounting_kind
returns-in-15 c =
    position_is c.args.self.now.index (judged c.args.self.now) 0 15 ReflinkPFrontPadBad _ c.pair.ensures.value c.in-15.is (omega arith) tt refl c.front_pad_bad.ensures c.then_some-in-15.ensures

pub returns-in-4387 : goal.returns-in-4387
unfolding check_position is when bad_id accounting_junk accounting_kind
returns-in-4387 c =
    position_is c.args.self.now.index (judged c.args.self.now) 17 35 InodeAllocCursorInodeBad (not (eqb c.args.self.now.head.inode 1)) c.pair.ensures.value c.in-4387.is (omega arith) tt refl refl c.then_some-in-4387.ensures

pub returns-in-3871 : goal.returns-in-3871
unfolding check_position is when bad_id accounting_junk accounting_kind
returns-in-3871 c =
    position_is c.args.self.now.index (judged c.args.self.now) 15 31 SnapshotTreePosBad _ c.pair.ensures.value c.in-3871.is (omega arith) tt refl c.bad_id-in-3871.ensures c.then_some-in-3871.ensures

pub returns-in-5154 : goal.returns-in-5154
unfolding check_position is when bad_id accounting_junk accounting_kind
returns-in-5154 c =
    position_is c.args.self.now.index (judged c.args.self.now) 20 34 AccountingKeyJunkAtEnd _ c.pair.ensures.value c.in-5154.is (omega arith) tt refl c.accounting_junk.ensures c.then_some-in-5154.ensures

pub returns-in-3356 : goal.returns-in-3356
unfolding check_position is when bad_id accounting_junk accounting_kind
returns-in-3356 c =
    position_is c.args.self.now.index (judged c.args.self.now) 13 28 BackpointerLevelBad _ c.pair.ensures.value c.in-3356.is (omega arith) tt refl c.level_bad.ensures c.then_some-in-3356.ensures

pub returns-in-779 : goal.returns-in-779
unfolding check_position is when bad_id accounting_junk accounting_kind
returns-in-779 c =
    position_is c.args.self.now.index (judged c.args.self.now) 3 11 XattrValSizeTooSmall _ c.pair.ensures.value c.in-779.is (omega arith) tt (sym (append-nil _)) c.xattr_short.ensures c.then_some-in-779.ensures

pub returns-in_default : goal.returns-in_default
unfolding check_position is when
returns-in_default c =
    let h = c.args.self.now.head in
    simp (
      pair_not 1 29 h.btree h.key_type (λ e. omega arith),
      pair_not 8 21 h.btree h.key_type (λ e. omega arith),
      pair_not 9 22 h.btree h.key_type (λ e. omega arith),
      pair_not 7 16 h.btree h.key_type (λ e. omega arith),
      pair_not 0 15 h.btree h.key_type (λ e. omega arith),
      pair_not 17 35 h.btree h.key_type (λ e. omega arith),
      pair_not 15 31 h.btree h.key_type (λ e. omega arith),
      pair_not 20 34 h.btree h.key_type (λ e. omega arith),
      pair_not 13 28 h.btree h.key_type (λ e. omega arith),
      pair_not 3 11 h.btree h.key_type (λ e. omega arith),
    )
