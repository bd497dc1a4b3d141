-- `fields::minimum_value` meets its contract: a pair is of one btree and one type.
use Rattle.std.proofs.Common.{◌≡◌, arith}
use Rattle.book.specs.Book.{is}
use Rattle.fields.specs.CheckKeyFields.{minimum_value}
use Rattle.fields.proofs.Laws.{pair_not}
use Rattle.fields.proofs.minimum_value.Goals as goal

pub returns-in-3356 : goal.returns-in-3356
unfolding minimum_value is
returns-in-3356 c =
    let h = c.args.h in
    let btree : h.btree ≡ 13 = omega arith in
    let type : h.key_type ≡ 28 = omega arith in
    rw (btree, type)

pub returns-in-2326 : goal.returns-in-2326
unfolding minimum_value is
returns-in-2326 c =
    let h = c.args.h in
    let btree : h.btree ≡ 9 = omega arith in
    let type : h.key_type ≡ 22 = omega arith in
    rw (btree, type)

pub returns-in-2069 : goal.returns-in-2069
unfolding minimum_value is
returns-in-2069 c =
    let h = c.args.h in
    let btree : h.btree ≡ 8 = omega arith in
    let type : h.key_type ≡ 21 = omega arith in
    rw (btree, type)

pub returns-in_default : goal.returns-in_default
unfolding minimum_value is
returns-in_default c =
    let h = c.args.h in
    simp (
      pair_not 13 28 h.btree h.key_type (λ e. omega arith),
      pair_not 9 22 h.btree h.key_type (λ e. omega arith),
      pair_not 8 21 h.btree h.key_type (λ e. omega arith),
    )
