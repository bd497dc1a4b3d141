-- `fields::some_nonzero` meets its contract: `any` tests each byte.
use Rattle.std.proofs.Common.{ℕ, ◌≡◌, true, false, not, eqb, refl, rules, tests}
use Rattle.std.proofs.lemmas.Iterator.{cases_from_any, YieldsList-from_slice}
use Rattle.fields.specs.CheckKeyFields.{some_nonzero}
use Rattle.fields.proofs.Laws.{any_by}
use Rattle.fields.proofs.some_nonzero.Goals as goal

pub returns : goal.returns
unfolding some_nonzero
returns c =
    let bytes = c.args.bytes.now in
    let nonzero = λ (b : ℕ). not (eqb b 0) in
    any_by nonzero 0 some_nonzero refl (λ _ _. refl) c.any.result bytes
    (cases_from_any _ _ _ (λ b. nonzero b ≡ true) (λ b. nonzero b ≡ false) c.any.ensures.ran (YieldsList-from_slice bytes cc) (λ x q k. search (rules, tests)) (λ x q k. search (rules, tests)))
