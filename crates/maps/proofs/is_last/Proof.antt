-- The pair itself, and the one after it.
use Rattle.maps.proofs.Last.{last_is}
use borrow.Author.Rules.{rules}
use Rattle.maps.proofs.is_last.Statement.{statement}
use Rattle.maps.proofs.is_last.Tie as tie

returns : tie.Need-returns
returns c =
    last_is c.args.w.now c.args.n c.args.i c.requires.1 (λ k. (c.shared_slice_known-2-1.given k).fits) c.args.which c.is_for-own.ensures c.goes_on-more.ensures

pub is_last_spec : {M : Type 1} → statement M
is_last_spec =
    tie.close
    (tie.spec
    (λ c. search rules)
    (λ c. search rules)
    (λ c. search rules)
    (λ c κs. search rules)
    (λ c. search rules)
    (λ c κs. search rules)
    returns)
