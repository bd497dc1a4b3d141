-- Key after key.
use Rattle.std.proofs.Common.{arith}
use Rattle.findings.specs.Findings.{only}
use Rattle.book.specs.Book.{Bkey, book_of}
use Rattle.book.proofs.Walk.{few_keys}
use Rattle.walk.proofs.Puts.{begin_gather, put_first, put_key, put_last}
use Rattle.walk.proofs.Visits.{begin_keys, visit_first, visit_key, visit_last}
use Rattle.buckets.specs.FreeSpace.{is_run, run_findings}
use Rattle.buckets.specs.Steps.{run_pair}
use Rattle.buckets.proofs.take_runs.Goals as goal

pub loop-key-init : goal.loop-key-init
loop-key-init c =
    let k = c.keys-key-items in
    let b = c.args.runs.now.book in
    let book = book_of b.bytes.now in
    let of = λ (k : Bkey). only (is_run k) (run_findings book k) in
    rw c.into_iter-key-iterator.ensures.into_iter_gives
    (record {
      visited = visit_first of (begin_keys of b k.result k.ensures.bytes k.ensures.all);
      found = omega (arith, k.ensures.all);
      put = put_first (run_pair book) k.result c.args.work.now (begin_gather (run_pair book) b k.result k.ensures.bytes k.ensures.all);
      few = omega (arith, k.ensures.all);
      near = omega arith;
    })

pub loop-key-preserved : goal.loop-key-preserved
loop-key-preserved c =
    let g = c.in-Some.ensures.steps in
    let b = c.args.runs.now.book in
    let book = book_of b.bytes.now in
    let i = c.loop-key.invariant in
    let one = c.take_run-t.ensures in
    record {
      visited = visit_key (λ (k : Bkey). only (is_run k) (run_findings book k)) c.loop-key.key-iterator c.next.new.self c.in-Some.key g i.visited one.reports;
      found = omega (arith, g, i.found, one.few.0);
      put = put_key (run_pair book) c.loop-key.key-iterator c.next.new.self c.in-Some.key g i.put one.put;
      few = omega (arith, g, i.few, one.few.1);
      near = one.few.2;
    }

pub take_run-t-requires : goal.take_run-t-requires
take_run-t-requires c =
    let i = c.loop-key.invariant in
    let g = c.in-Some.ensures.steps in
    (omega (arith, i.found, few_keys c.args.runs.now.book.opened, c.requires.0), omega (arith, g, i.few, c.requires.1), i.near)

pub returns-clause-reports : goal.returns-clause-reports
returns-clause-reports c = visit_last c.loop-key.invariant.visited c.in-None.ensures.steps

pub returns-clause-put : goal.returns-clause-put
returns-clause-put c = put_last c.loop-key.invariant.put c.in-None.ensures.steps
