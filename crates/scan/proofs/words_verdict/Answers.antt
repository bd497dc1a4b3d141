-- No entries, no refusal.
use mathlib.Core.Path.{sym}
use Rattle.scan.proofs.Laws.{table_none}
use Rattle.scan.proofs.words_verdict.Goals as goal

pub returns-then-count-eq0 : goal.returns-then-count-eq0
returns-then-count-eq0 c = sym (table_none _ _ _ _ c.if-count-eq0.true)
