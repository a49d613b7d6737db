-- `pch::call_in` meets its contract. Assumes nothing.
use mathlib.Core.Path.{sym, ◌∙◌}
use Rattle.pch.specs.Entry.{call_in}
use Rattle.pch.proofs.call_in.Goals as goal

pub full_call-requires : goal.full_call-requires
full_call-requires c = (c.requires, sym c.is_set.ensures ∙ c.if-is_set.true)

pub returns-then-is_set : goal.returns-then-is_set
unfolding call_in
returns-then-is_set c = rw (sym c.is_set.ensures ∙ c.if-is_set.true) c.full_call.ensures

pub returns : goal.returns
unfolding call_in
returns c = rw (sym c.is_set.ensures ∙ c.if-is_set.false) c.reduced_call.ensures
