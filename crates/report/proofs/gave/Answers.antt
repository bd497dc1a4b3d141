-- An error is told by the test, and bytes are counted.
use Rattle.report.proofs.Reading.{gave_error, gave_bytes}
use Rattle.report.proofs.gave.Goals as goal

pub returns-then-answer-lt0 : goal.returns-then-answer-lt0
returns-then-answer-lt0 c = gave_error _ _ c.ranges.answer c.if-answer-lt0.true

pub returns : goal.returns
returns c = gave_bytes _ _ c.ranges.answer _ c.if-answer-lt0.false c.count.ensures.value
