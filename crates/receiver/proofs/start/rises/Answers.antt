-- `receiver::start::rises` meets its contract. Assumes nothing.
use Rattle.std.proofs.Common.{rules, tests, nat_lt}
use Rattle.std.proofs.lemmas.List.Sorted.{answers_always}
use Rattle.receiver.proofs.Keys.{rise_from}
use Rattle.receiver.proofs.start.rises.Goals as goal

pub returns : goal.returns
returns c = rise_from _ _ (c.is_sorted_by.ensures.cases (λ x y. nat_lt x y) (answers_always _ _ _ (λ f a r g k. search (rules, tests))))
