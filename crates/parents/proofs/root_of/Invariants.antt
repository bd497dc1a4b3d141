-- `links` links lead to `at`, past no root; and past the last of them there is none.
use Rattle.std.proofs.Common.{◌≤◌}
use Rattle.book.specs.Book.{book_of}
use Rattle.book.specs.KeyMaps.{parents_of}
use Rattle.parents.specs.Sources.{reach_of}
use Rattle.parents.proofs.Climb.{Climbing}
use Rattle.parents.proofs.root_of.Given as goal

abbrev pub invariant-loop-links : goal.invariant-loop-links
invariant-loop-links l = (l.near ≤ reach_of l.source) × Climbing (parents_of (book_of l.book)) l.id l.at l.links
