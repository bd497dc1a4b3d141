-- The words of the pair.
use Rattle.maps.proofs.Last.{words_for}
use borrow.Author.Rules.{rules}
use Rattle.maps.proofs.is_for.Statement.{statement}
use Rattle.maps.proofs.is_for.Tie as tie

pub is_for_spec : {M : Type 1} → statement M
is_for_spec =
    tie.close
    (tie.spec
    (λ c. search rules)
    (λ c. search rules)
    (λ c. search rules)
    (λ c. search rules)
    (λ c. search rules)
    (λ c. search rules)
    (λ c. words_for _ _ _ _ (c.shared_slice_known-2-1.given _).fits))
