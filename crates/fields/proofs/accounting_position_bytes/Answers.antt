-- `fields::accounting_position_bytes` meets its contract by computing: the last byte of each number is shifted by nothing.
use Rattle.std.proofs.Common.{div-one}
use Rattle.findings.specs.Findings.{bytes_of}
use Rattle.fields.specs.CheckKeyFields.{accounting_position_bytes}
use Rattle.fields.proofs.accounting_position_bytes.Goals as goal

pub returns : goal.returns
unfolding accounting_position_bytes bytes_of
returns c = rw (div-one, div-one, div-one)
