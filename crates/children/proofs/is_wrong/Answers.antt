-- By whether the word is an entry's, and by the parent.
use Rattle.std.specs.Prelude.{None, Option, Some}
use Rattle.std.proofs.Common.{◌≡◌, ℕ, ◌^◌, ◌<◌, false}
use borrow.Author.Tests.{lt-ltb, le-ltb}
use Rattle.children.specs.Steps.{wrong_word}
use Rattle.children.proofs.is_wrong.Goals as goal

small : (y : ℕ) (m : Option ℕ) → y < 2 ^ 32 → false ≡ wrong_word y m
unfolding wrong_word
small y (Some parent) h = rw (lt-ltb y (2 ^ 32) h)
small y None h = rw (lt-ltb y (2 ^ 32) h)

pub returns-then-second-lt4294967296 : goal.returns-then-second-lt4294967296
returns-then-second-lt4294967296 c = small c.args.second c.args.parent c.if-second-lt4294967296.true

pub returns-in-Some : goal.returns-in-Some
unfolding wrong_word
returns-in-Some c = rw (c.in-Some.is, le-ltb c.args.second (2 ^ 32) c.if-second-lt4294967296.false)

pub returns-in-None : goal.returns-in-None
unfolding wrong_word
returns-in-None c = rw (c.in-None.is, le-ltb c.args.second (2 ^ 32) c.if-second-lt4294967296.false)
