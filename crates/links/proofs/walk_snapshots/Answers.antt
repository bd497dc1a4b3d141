-- Key after key.
use Rattle.std.proofs.Common.{arith, ap, ◌∙◌, sym}
use Rattle.findings.specs.Findings.{only, each}
use Rattle.book.specs.Book.{Bkey, book_of}
use Rattle.book.specs.Words.{holds}
use Rattle.parents.specs.Sources.{reach_of}
use Rattle.book.proofs.Walk.{few_keys}
use Rattle.walk.proofs.Visits.{begin_keys, visit_first, visit_key, visit_last}
use Rattle.links.specs.SnapshotLinks.{link_findings}
use Rattle.links.proofs.Trees.{ready, ready_source}
use Rattle.links.proofs.walk_snapshots.Goals as goal

pub line_of-line-requires : goal.line_of-line-requires
line_of-line-requires c = (ready_source (ready c.args.links.now) c.source_of-source.ensures, omega arith)

pub loop-key-init : goal.loop-key-init
loop-key-init c =
    let k = c.keys-key-items in
    let b = c.args.links.now.book in
    let of = λ (k : Bkey). only (holds 9 22 40 k) (link_findings (book_of b.bytes.now) k) in
    let line = c.line_of-line.ensures in
    rw c.into_iter-key-iterator.ensures.into_iter_gives
    (record {
      visited = visit_first of (begin_keys of b k.result k.ensures.bytes k.ensures.all);
      few = omega (arith, k.ensures.all);
      lined = line.lined;
      near = omega (arith, line.same.1, ap reach_of c.source_of-source.ensures);
    })

pub loop-key-preserved : goal.loop-key-preserved
loop-key-preserved c =
    let g = c.in-Some.ensures.steps in
    let i = c.loop-key.invariant in
    let s = c.show_snapshot-line.ensures in
    record {
      visited = visit_key (λ k. only (holds 9 22 40 k) (link_findings (book_of c.args.links.now.book.bytes.now) k)) c.loop-key.key-iterator c.next.new.self c.in-Some.key g i.visited s.reports;
      few = omega (arith, g, s.few_2, i.few);
      lined = s.lined.0;
      near = s.lined.1;
    }

pub show_snapshot-line-requires-clause-few : goal.show_snapshot-line-requires-clause-few
show_snapshot-line-requires-clause-few c = omega (arith, few_keys c.args.links.now.book.opened, c.loop-key.invariant.few, c.requires)

pub returns-clause-reports : goal.returns-clause-reports
returns-clause-reports c = visit_last c.loop-key.invariant.visited c.in-None.ensures.steps
