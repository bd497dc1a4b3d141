-- `fields::some_not_rising` meets its contract: the numbers are sorted, without equals, exactly if each is below the next.
use Rattle.std.proofs.Common.{ltb, rules, tests}
use Rattle.std.proofs.lemmas.List.Sorted.{answers_always}
use Rattle.fields.proofs.Laws.{rising_sorted}
use Rattle.fields.proofs.some_not_rising.Goals as goal

pub returns : goal.returns
returns c =
    rising_sorted c.args.devices.now _ (c.is_sorted_by.ensures.cases ltb (answers_always _ _ _ (λ f a r g called. search (rules, tests))))
