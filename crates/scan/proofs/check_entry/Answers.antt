-- The tests that lead to each return decide the checks of `entry_verdict` in turn.
use mathlib.Core.Path.{ap}
use Prim.Native.Nat.{ℕ}
use borrow.Author.Tests.{lt-ltb, le-ltb, le-leb, lt-leb}
use Rattle.std.specs.Prelude.{Result, Ok}
use Rattle.book.specs.declared.refusal.Refusal.{Refusal}
use Rattle.book.specs.Refusals.{refuse, ◌then◌, entry_verdict}
use Rattle.scan.specs.Steps.{given}
use Rattle.scan.proofs.check_entry.Goals as goal

-- an entry that passes gives its first field
abbrev ok : ℕ → Result ℕ Refusal
ok x = Ok x

pub returns-then-book-at : goal.returns-then-book-at
unfolding given entry_verdict ◌then◌ refuse
returns-then-book-at c = simp (lt-ltb _ _ c.if-book-at.true, c.at.ensures)

pub returns-then-bad_entry : goal.returns-then-bad_entry
unfolding given entry_verdict ◌then◌ refuse
returns-then-bad_entry c = simp (le-ltb _ _ c.if-book-at.false, ← c.bad_entry.ensures, c.if-bad_entry.true, c.at-then-bad_entry.ensures)

pub returns-then-at-start : goal.returns-then-at-start
unfolding given entry_verdict ◌then◌ refuse
returns-then-at-start c =
    simp (le-ltb _ _ c.if-book-at.false, ← c.bad_entry.ensures, c.if-bad_entry.false, lt-leb _ _ c.if-at-start.true) (ap ok c.read_first-first.ensures)

pub returns-then-first-previous : goal.returns-then-first-previous
unfolding given entry_verdict ◌then◌ refuse
returns-then-first-previous c =
    let order = rw (c.read_first-first.ensures, c.requires.first_before c.if-at-start.false) at c.if-first-previous.true in
    simp (le-ltb _ _ c.if-book-at.false, ← c.bad_entry.ensures, c.if-bad_entry.false, le-leb _ _ c.if-at-start.false, le-leb _ _ order, c.at-then-first-previous.ensures)

pub returns : goal.returns
unfolding given entry_verdict ◌then◌ refuse
returns c =
    let order = rw (c.read_first-first.ensures, c.requires.first_before c.if-at-start.false) at c.if-first-previous.false in
    simp (le-ltb _ _ c.if-book-at.false, ← c.bad_entry.ensures, c.if-bad_entry.false, le-leb _ _ c.if-at-start.false, lt-leb _ _ order)
    (ap ok c.read_first-first.ensures)
