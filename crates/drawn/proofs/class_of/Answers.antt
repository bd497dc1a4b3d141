-- `drawn::class_of` meets its contract: by the two tests.
use native.Mathlib.Omega.{arith}
use borrow.Author.Tests.{le-leb, lt-leb}
use Rattle.drawn.specs.Classes.{class_of}
use Rattle.drawn.proofs.class_of.Goals as goal

pub returns-then-bytes-ge40 : goal.returns-then-bytes-ge40
unfolding class_of
returns-then-bytes-ge40 c = record { class = rw (le-leb 40 c.args.bytes (omega (arith, c.if-bytes-ge40.true))); few = omega arith }

pub returns-then-bytes-ge24 : goal.returns-then-bytes-ge24
unfolding class_of
returns-then-bytes-ge24 c = record { class = rw (lt-leb 40 c.args.bytes (omega (arith, c.if-bytes-ge40.false)), le-leb 24 c.args.bytes (omega (arith, c.if-bytes-ge24.true))); few = omega arith }

pub returns : goal.returns
unfolding class_of
returns c = record { class = rw (lt-leb 40 c.args.bytes (omega (arith, c.if-bytes-ge40.false)), lt-leb 24 c.args.bytes (omega (arith, c.if-bytes-ge24.false))); few = omega arith }
