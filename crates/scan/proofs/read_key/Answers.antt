-- The tests that lead to each return decide the checks of `key_verdict` in turn.
use Prim.Native.Nat.{ℕ, ◌+◌, ◌<◌, ◌≤◌}
use mathlib.Core.Path.{◌≡◌, ap}
use mathlib.Core.List.{List}
use borrow.Author.Tests.{lt-ltb, le-ltb, eq-eqb, ne_eqb}
use native.Mathlib.Omega.{arith}
use lib.ListN.{length}
use Rattle.book.specs.declared.KeyFront.{KeyFront}
use Rattle.book.specs.Book.{key_end, key_head}
use Rattle.book.specs.Refusals.{refuse, ◌then◌, key_verdict}
use Rattle.book.specs.Walk.{front_of}
use Rattle.scan.specs.Steps.{given}
use Rattle.book.proofs.Laws.{key_end_lem}
use Rattle.book.proofs.Walk.{front_end}
use Rattle.scan.proofs.Laws.{key_len}
use Rattle.scan.proofs.read_key.Goals as goal

-- past the second test the key lies within the book
whole : (s : List ℕ) (p : ℕ) {f : KeyFront} → f ≡ front_of (key_head s p) → p + 28 + f.len ≤ length s → key_end s p ≤ length s
whole s p e h = omega (arith, front_end s p e)

pub returns-then-book-at : goal.returns-then-book-at
unfolding given key_verdict ◌then◌ refuse
returns-then-book-at c =
    let a = c.args in
    let past : length a.book.now < key_end a.book.now a.at = omega (arith, key_end_lem a.book.now a.at) in
    simp (lt-ltb _ _ past, c.at.ensures)

pub overflow_add-at-3 : goal.overflow_add-at-3
overflow_add-at-3 c = omega (arith, key_len c.args.book.now c.args.at, ap (λ (f : KeyFront). f.len) c.key_front-front.ensures)

pub returns-then-book-at-2 : goal.returns-then-book-at-2
unfolding given key_verdict ◌then◌ refuse
returns-then-book-at-2 c =
    let a = c.args in
    let past : length a.book.now < key_end a.book.now a.at = omega (arith, front_end a.book.now a.at c.key_front-front.ensures) in
    simp (lt-ltb _ _ past, c.at-then-book-at-2.ensures)

pub returns-then-front-ne0 : goal.returns-then-front-ne0
unfolding given key_verdict ◌then◌ refuse
returns-then-front-ne0 c =
    let inside = whole _ _ c.key_front-front.ensures c.if-book-at-2.false in
    let spare = rw c.key_front-front.ensures at c.if-front-ne0.true in
    simp (le-ltb _ _ inside, ne_eqb _ _ spare, c.at-then-front-ne0.ensures)

pub returns-then-front-trees : goal.returns-then-front-trees
unfolding given key_verdict ◌then◌ refuse
returns-then-front-trees c =
    let inside = whole _ _ c.key_front-front.ensures c.if-book-at-2.false in
    let spare = rw c.key_front-front.ensures at c.if-front-ne0.false in
    let tree = rw c.key_front-front.ensures at c.if-front-trees.true in
    simp (le-ltb _ _ inside, eq-eqb _ _ spare, tree, c.at-then-front-trees.ensures)

pub returns : goal.returns
unfolding given key_verdict ◌then◌ refuse
returns c =
    let inside = whole _ _ c.key_front-front.ensures c.if-book-at-2.false in
    let spare = rw c.key_front-front.ensures at c.if-front-ne0.false in
    let tree = rw c.key_front-front.ensures at c.if-front-trees.false in
    simp (le-ltb _ _ inside, eq-eqb _ _ spare, tree, c.key_front-front.ensures)
