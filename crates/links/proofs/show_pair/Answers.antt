-- A last pair is the place of a tree record of its id.
use Rattle.std.proofs.Common.{◌≡◌, ◌∙◌, sym, ap, arith, ℕ, ◌+◌, ◌*◌, ◌%◌, ◌^◌, ◌<◌, get_or, drop, true, List}
use Rattle.findings.specs.Findings.{only}
use Rattle.findings.proofs.Reports.{reports_as, reports_nil}
use Rattle.pairs.specs.Pairs.{pairs_of}
use Rattle.book.specs.Book.{book_of}
use Rattle.book.specs.Words.{holds, id_of}
use Rattle.maps.specs.Sorted.{last_at}
use Rattle.maps.proofs.Places.{Held}
use Rattle.links.specs.declared.linked.Linked.{Linked}
use Rattle.links.specs.SnapshotLinks.{tree_findings}
use Rattle.links.specs.Steps.{tree_at}
use Rattle.links.proofs.Trees.{ready, ready_small, held_read, held_long, last_tree}
use Rattle.links.proofs.show_pair.Goals as goal

-- the record
record_of : (l : Linked) (i : ℕ) → i < l.pairs.count → ((k : ℕ) → get_or l.pairs.words.now k 0 < 2 ^ 64) → last_at 0 (drop i (pairs_of l.pairs.words.now l.pairs.count)) ≡ true
    → Held (holds 15 31 8) id_of l.book.bytes.now (get_or l.pairs.words.now (2 * i) 0) (get_or l.pairs.words.now (2 * i + 1) 0 % 2 ^ 32)
record_of l i few small e = last_tree (ready l) i few small e

pub read-requires : goal.read-requires
read-requires c =
    let a = c.args in
    held_read 15 31 8 (ready_small (ready a.links.now)) (record_of a.links.now a.i c.requires.0 a.links.now.pairs.wide (sym c.is_last.ensures ∙ c.if-is_last.true))

pub show_tree-requires : goal.show_tree-requires
show_tree-requires c =
    let a = c.args in
    let long = held_long 15 31 8 (ready_small (ready a.links.now)) (record_of a.links.now a.i c.requires.0 a.links.now.pairs.wide (sym c.is_last.ensures ∙ c.if-is_last.true)) in
    (rw (c.read.ensures.0, c.read.ensures.1) long, omega (arith, c.requires.1))

pub returns-then-is_last-clause-reports : goal.returns-then-is_last-clause-reports
unfolding only
returns-then-is_last-clause-reports c =
    let a = c.args in
    let w = a.links.now.pairs.words.now in
    let s = a.links.now.book.bytes.now in
    let held = record_of a.links.now a.i c.requires.0 a.links.now.pairs.wide (sym c.is_last.ensures ∙ c.if-is_last.true) in
    let same = ap (λ (id : ℕ). tree_findings (book_of s) (tree_at s (id, get_or w (2 * a.i + 1) 0 % 2 ^ 32))) held.numbered in
    reports_as (rw (sym c.is_last.ensures ∙ c.if-is_last.true) same) (rw (c.read.ensures.0, c.read.ensures.1) at c.show_tree.ensures.reports)

pub returns-else-is_last-clause-reports : goal.returns-else-is_last-clause-reports
unfolding only
returns-else-is_last-clause-reports c = reports_nil (rw (sym c.is_last.ensures ∙ c.if-is_last.false))
