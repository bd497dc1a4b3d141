-- Key after key.
use Rattle.std.proofs.Common.{arith}
use Rattle.findings.specs.Findings.{only}
use Rattle.book.specs.Maps.{lookup}
use Rattle.book.specs.Book.{Bkey, book_of}
use Rattle.book.proofs.Walk.{few_keys}
use Rattle.walk.proofs.Visits.{begin_keys, visit_first, visit_key, visit_last}
use Rattle.children.specs.SubvolumeChildren.{fs_parents, is_entry, wrong_entry}
use Rattle.children.proofs.show_wrongs.Goals as goal

pub loop-key-init : goal.loop-key-init
loop-key-init c =
    let k = c.keys-key-items in
    let b = c.args.children.now.book in
    let of = λ (k : Bkey). only (is_entry k) (wrong_entry k (lookup k.offset (fs_parents (book_of b.bytes.now)))) in
    rw c.into_iter-key-iterator.ensures.into_iter_gives
    (record { visited = visit_first of (begin_keys of b k.result k.ensures.bytes k.ensures.all); few = omega (arith, k.ensures.all) })

pub show_wrong-requires : goal.show_wrong-requires
show_wrong-requires c = omega (arith, c.requires, few_keys c.args.children.now.book.opened, c.loop-key.invariant.few)

pub loop-key-preserved : goal.loop-key-preserved
loop-key-preserved c =
    let g = c.in-Some.ensures.steps in
    let i = c.loop-key.invariant in
    let b = book_of c.args.children.now.book.bytes.now in
    let s = c.show_wrong.ensures in
    record {
      visited = visit_key (λ k. only (is_entry k) (wrong_entry k (lookup k.offset (fs_parents b)))) c.loop-key.key-iterator c.next.new.self c.in-Some.key g i.visited s.reports;
      few = omega (arith, g, s.few, i.few);
    }

pub returns-clause-reports : goal.returns-clause-reports
returns-clause-reports c = visit_last c.loop-key.invariant.visited c.in-None.ensures.steps
