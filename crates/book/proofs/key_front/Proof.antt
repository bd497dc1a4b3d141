-- `book::key_front` meets its contract: four steps of the cursor, each from where the one before ended.
use Prim.Native.Nat.{◌+◌, ◌*◌}
use mathlib.Core.Path.{refl}
use Rattle.bits.proofs.Laws.{taken}
use Rattle.book.specs.Book.{key_head}
use borrow.Author.Rules.{rules}
use native.Mathlib.Omega.{arith}
use Rattle.book.proofs.key_front.Statement.{statement}
use Rattle.book.proofs.key_front.Tie as tie

returns : tie.Need-returns
unfolding key_head
returns c =
    let a = c.before.before.before.before.before.before.before.before.before.before.before.args in
    let s = a.book.now in
    let btree = taken s 8 c.before.before.before.before.before.before.before.before.before.take-t.ensures refl in
    let key-type = taken s 8 {q = 8 * a.at + 8} c.before.before.before.before.before.before.take-t-2.ensures (omega (arith, btree.1)) in
    let len = taken s 11 {q = 8 * a.at + 16} c.before.before.before.take-t-3.ensures (omega (arith, key-type.1)) in
    let spare = taken s 5 {q = 8 * a.at + 27} c.before.take-t-4.ensures (omega (arith, len.1)) in
    cc (btree.0, key-type.0, len.0, spare.0)

pub key_front_spec : {M : Type 1} → statement M
key_front_spec =
    tie.close
    (tie.spec
    (λ c. search rules)
    (λ c κs. search rules)
    (λ c. search rules)
    (λ c κs. search rules)
    (λ c. search rules)
    (λ c κs. search rules)
    (λ c κs. search rules)
    (λ c. search rules)
    returns)
