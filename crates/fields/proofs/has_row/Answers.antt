-- `fields::has_row` meets its contract: `any` tests each row.
use Rattle.std.proofs.Common.{ℕ, ◌≡◌, ◌&&◌, true, false, eqb, refl, rules, tests}
use Rattle.std.proofs.lemmas.Iterator.{cases_from_any, YieldsList-from_slice}
use Rattle.fields.specs.CheckKeyFields.{has_row}
use Rattle.fields.proofs.Laws.{any_by}
use Rattle.fields.proofs.has_row.Goals as goal

pub returns : goal.returns
unfolding has_row
returns c =
    let rows = c.args.table.now in
    let is_row = λ (row : ℕ × ℕ). eqb row.0 c.args.btree && eqb row.1 c.args.key_type in
    any_by is_row (0, 0) (λ rows. has_row rows c.args.btree c.args.key_type) refl (λ _ _. refl) c.any.result rows
    (cases_from_any _ _ _ (λ row. is_row row ≡ true) (λ row. is_row row ≡ false) c.any.ensures.ran (YieldsList-from_slice rows cc) (λ x q k. search (rules, tests)) (λ x q k. search (rules, tests)))
