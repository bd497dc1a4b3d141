-- `fields::check_key_device` meets its contract: one finding after the other.
use Rattle.fields.specs.CheckKeyDevice.{check_key_device}
use Rattle.findings.proofs.Reports.{reports_more}
use Rattle.fields.proofs.check_key_device.Goals as goal

pub returns-clause-reports : goal.returns-clause-reports
unfolding check_key_device
returns-clause-reports c = rw (← c.elsewhere-away.ensures) (reports_more c.emit_if.ensures.reports c.emit_if-2.ensures.reports)
