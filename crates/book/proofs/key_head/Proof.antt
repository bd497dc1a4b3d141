-- `book::key_head` meets its contract: the front, and four more steps of the cursor.
use Prim.Native.Nat.{◌+◌, ◌*◌}
use mathlib.Core.Path.{refl}
use Rattle.bits.proofs.Laws.{taken}
use Rattle.book.specs.Book.{key_head}
use borrow.Author.Rules.{rules}
use native.Mathlib.Omega.{arith}
use Rattle.book.proofs.key_head.Statement.{statement}
use Rattle.book.proofs.key_head.Tie as tie

returns : tie.Need-returns
unfolding key_head
returns c =
    let a = c.before.before.before.before.before.before.before.before.before.before.before.args in
    let s = a.book.now in
    let size = taken s 32 c.before.before.before.before.before.before.before.before.take-t.ensures refl in
    let inode = taken s 64 {q = 8 * a.at + 64} c.before.before.before.before.before.take-inode.ensures (omega (arith, size.1)) in
    let offset = taken s 64 {q = 8 * a.at + 128} c.before.before.before.take-offset.ensures (omega (arith, inode.1)) in
    let snapshot = taken s 32 {q = 8 * a.at + 192} c.before.take-t-2.ensures (omega (arith, offset.1)) in
    rw c.before.before.before.before.before.before.before.before.before.key_front-front.ensures (cc (size.0, inode.0, offset.0, snapshot.0))

pub key_head_spec : {M : Type 1} → statement M
key_head_spec =
    tie.close
    (tie.spec
    (λ c κs. search rules)
    (λ c. search rules)
    (λ c. search rules)
    (λ c κs. search rules)
    (λ c. search rules)
    (λ c κs. search rules)
    (λ c κs. search rules)
    (λ c κs. search rules)
    (λ c. search rules)
    (λ c. omega (arith, c.before.before.before.before.before.before.before.before.before.before))
    returns)
