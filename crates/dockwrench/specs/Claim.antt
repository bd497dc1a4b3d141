-- Demand 3: "one claim on that list and that call over every forest book, not one for each kind".
use Rattle.std.specs.Prelude.{ℕ, List, ◌≡◌}
use Rattle.book.specs.Book.{Book}
use Rattle.book.specs.Refusals.{Outcome, parse}
use Rattle.forest.specs.Forest.{ForestBook, Demand3}
use Rattle.rules.specs.Rules.{findings_of}
use Rattle.dockwrench.specs.Answers.{Answer}
use Rattle.dockwrench.specs.Decode.{decode}

-- the claim, of a main call over the bytes s that gave this answer and left this buffer
pub record Claim (s : List ℕ) (answer : Answer) (buffer : List ℕ) : Type 0 where
  -- on the list: "The findings are the book's full list"
  pub list : (b : Book) → parse s ≡ Outcome.accepted b → ForestBook b → Demand3 b (findings_of b)
  -- on the call: "at answer 0 the main call, the entry above, has left that list first in the buffer"
  pub call : (b : Book) → parse s ≡ Outcome.accepted b → answer.number ≡ 0 → decode answer.count buffer ≡ findings_of b
