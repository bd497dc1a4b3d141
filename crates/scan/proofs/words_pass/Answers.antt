-- A table with no entries passes, one that runs past the end does not, and any other does if it rises.
use mathlib.Core.Path.{◌∙◌}
use native.Mathlib.Omega.{arith}
use Rattle.scan.proofs.Rise.{words_none, words_past, words_pass}
use Rattle.scan.proofs.words_pass.Goals as goal

pub returns-then-count-eq0 : goal.returns-then-count-eq0
returns-then-count-eq0 c = words_none _ _ c.if-count-eq0.true

pub returns-then-book-start : goal.returns-then-book-start
returns-then-book-start c = words_past _ _ _ (omega arith) c.if-book-start.true

pub returns : goal.returns
returns c = c.words_rise.ensures ∙ words_pass _ _ _ (omega arith) c.if-book-start.false
