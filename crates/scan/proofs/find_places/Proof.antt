-- `scan::find_places` meets its contract: the counts have 16 bits, so every sum fits.
use mathlib.Core.Path.{refl}
use Rattle.book.specs.Book.{places_of}
use borrow.Author.Rules.{rules}
use Rattle.scan.proofs.find_places.Statement.{statement}
use Rattle.scan.proofs.find_places.Tie as tie

returns : tie.Need-returns
unfolding places_of
returns c = (refl, search rules)

pub find_places_spec : {M : Type 1} → statement M
find_places_spec =
    tie.close
    (tie.spec
    (λ c. search rules)
    (λ c. search rules)
    (λ c. search rules)
    (λ c. search rules)
    (λ c. search rules)
    (λ c. search rules)
    (λ c. search rules)
    (λ c. search rules)
    (λ c. search rules)
    (λ c. search rules)
    (λ c. search rules)
    (λ c. search rules)
    returns)
