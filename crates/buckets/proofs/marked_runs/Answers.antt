-- The marks are those of the alloc table.
use Rattle.std.proofs.Common.{rules, arith}
use Rattle.book.proofs.Walk.{parts}
use Rattle.buckets.proofs.marked_runs.Goals as goal

pub put_marks-requires : goal.put_marks-requires
put_marks-requires c = let o = parts c.args.book.opened in (o.small, o.alloc_rise.inside, omega arith, search rules)
