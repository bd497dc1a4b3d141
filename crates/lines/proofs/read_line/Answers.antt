-- Each turn goes on by a byte that is no newline.
use Prim.Native.Nat.{◌+◌}
use mathlib.Core.Path.{◌≡◌, refl, sym}
use lib.ListN.{length}
use lib.Seq.{length-take-le}
use native.Mathlib.Omega.{arith}
use Rattle.lines.specs.Lines.{line_length}
use Rattle.lines.proofs.Lines.{line_kept, line_grown, drop_later, byte_read}
use Rattle.lines.proofs.read_line.Goals as goal

pub loop-n-init : goal.loop-n-init
unfolding line_length
loop-n-init c = (omega arith, refl, refl, refl)

pub returns-then-read_full-lt1 : goal.returns-then-read_full-lt1
returns-then-read_full-lt1 c =
    let turn = c.loop-n in
    let read = byte_read turn.n turn.line c.read_full.new.buf _ (omega arith) (omega arith) turn.invariant.2 turn.invariant.3 in
    record { counts = (omega arith, sym (length-take-le _ _ (omega arith))); size = omega arith; one = omega (arith, read.0); rest = read.1 }

pub returns-then-line-n-eq10 : goal.returns-then-line-n-eq10
returns-then-line-n-eq10 c =
    let turn = c.loop-n in
    let read = byte_read turn.n turn.line c.read_full.new.buf _ (omega arith) (omega arith) turn.invariant.2 turn.invariant.3 in
    record {
      counts = (omega arith, sym (length-take-le _ _ (omega arith)));
      size = omega arith;
      one = omega (arith, line_kept _ turn.n (omega arith) read.0);
      rest = drop_later (turn.n + 1) _ _ read.1;
    }

pub loop-n-preserved : goal.loop-n-preserved
loop-n-preserved c =
    let turn = c.loop-n in
    let read = byte_read turn.n turn.line c.read_full.new.buf _ (omega arith) (omega arith) turn.invariant.2 turn.invariant.3 in
    (omega arith, omega arith, line_grown _ turn.n (omega arith) read.0 c.if-line-n-eq10.false, read.1)

pub returns : goal.returns
returns c =
    let turn = c.loop-n in
    let whole : turn.n ≡ length turn.line = omega arith in
    record {
      counts = (omega arith, sym (length-take-le _ _ (omega arith)));
      size = omega arith;
      one = omega (arith, rw whole at turn.invariant.2);
      rest = drop_later (length turn.line) _ _ (rw whole at turn.invariant.3);
    }
