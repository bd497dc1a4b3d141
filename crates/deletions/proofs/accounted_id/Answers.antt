-- By the bytes of the number.
use Rattle.std.proofs.Common.{arith}
use Rattle.bits.specs.Bits.{le_at}
use Rattle.findings.specs.Findings.{bytes_of}
use Rattle.deletions.proofs.accounted_id.Goals as goal

pub returns : goal.returns
unfolding le_at bytes_of
returns c = rw (c.from_le_bytes.ensures, c.to_be_bytes-bytes.ensures) (omega arith)
