-- Each test of the length refuses, and past them the verdict is that on the content.
use Prim.Native.Nat.{ℕ, ◌<◌, ◌≤◌}
use mathlib.Core.Path.{◌≡◌, sym, ◌∙◌}
use mathlib.Core.List.{List}
use lib.ListN.{length}
use borrow.Author.Tests.{lt-ltb, le-ltb}
use Rattle.std.specs.Prelude.{Err}
use Rattle.std.proofs.lemmas.Result.{err_from_is_err_and}
use Rattle.book.specs.declared.Header.{Header}
use Rattle.book.specs.declared.Places.{Places}
use Rattle.book.specs.Book.{header_of, places_of}
use Rattle.book.specs.Refusals.{Verdict, refusal, refuse, ◌then◌, header_verdict, parts_verdict, book_verdict}
use Rattle.book.proofs.Walk.{opened, parse_refused}
use Rattle.scan.proofs.scan.Goals as goal

-- past the tests of the length the verdict is that on the content
whole : (s : List ℕ) {h : Header} {at : Places} {v : Verdict} → length s ≤ 1048576 → 32 ≤ length s → h ≡ header_of s → at ≡ places_of h
    → v ≡ (header_verdict h then parts_verdict s h at) → book_verdict s ≡ v
unfolding book_verdict ◌then◌ refuse
whole s long short e f content = simp (le-ltb _ _ long, le-ltb _ _ short) (sym (rw (f, e) at content))

over : (s : List ℕ) → 1048576 < length s → book_verdict s ≡ Err (refusal 1 0)
unfolding book_verdict ◌then◌ refuse
over s h = simp (lt-ltb _ _ h)

under : (s : List ℕ) → length s ≤ 1048576 → length s < 32 → book_verdict s ≡ Err (refusal 2 0)
unfolding book_verdict ◌then◌ refuse
under s l h = simp (le-ltb _ _ l, lt-ltb _ _ h)

pub returns-then-book-gt1048576-clause-refused : goal.returns-then-book-gt1048576-clause-refused
returns-then-book-gt1048576-clause-refused c = rw c.at.ensures (parse_refused _ (over _ c.if-book-gt1048576.true))

pub returns-then-book-lt32-clause-refused : goal.returns-then-book-lt32-clause-refused
returns-then-book-lt32-clause-refused c =
    rw c.at-then-book-lt32.ensures (parse_refused _ (under _ c.if-book-gt1048576.false c.if-book-lt32.true))

pub returns-in_err-content_verdict-clause-refused : goal.returns-in_err-content_verdict-clause-refused
returns-in_err-content_verdict-clause-refused c =
    let p = err_from_is_err_and c.from_residual.result c.from_residual.ensures.1 in
    let v = whole _ c.if-book-gt1048576.false c.if-book-lt32.false c.read_header-header.ensures c.find_places-places.ensures.places c.content_verdict.ensures in
    rw (p.1, p.2) (parse_refused _ (v ∙ c.in_err-content_verdict.was))

pub invariant_of-result : goal.invariant_of-result
invariant_of-result c =
    let v = whole _ c.if-book-gt1048576.false c.if-book-lt32.false c.read_header-header.ensures c.find_places-places.ensures.places c.content_verdict.ensures in
    record { opened = rw (c.find_places-places.ensures.places, c.read_header-header.ensures) (opened _ (v ∙ c.in_ok-content_verdict.was)) }
