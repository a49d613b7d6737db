-- `lent::entries::call_entry` meets its contract. Assumes nothing.
use mathlib.Core.Path.{◌∙◌}
use Rattle.nch.proofs.NotificationFits.{call-whole}
use Rattle.receiver.specs.Entries.{call_with}
use native.Mathlib.Omega.{arith}
use Rattle.lent.proofs.entries.call_entry.Goals as goal

pub random_of_call-o-requires : goal.random_of_call-o-requires
random_of_call-o-requires c = let p = c.requires in (p.0, (p.1.1.1.0, p.1.1.0))

pub overflow_cast-at : goal.overflow_cast-at
overflow_cast-at c = omega (arith, c.requires.1.1.0)

pub call_at-requires : goal.call_at-requires
call_at-requires c = tt

pub emergency_of_call-requires : goal.emergency_of_call-requires
emergency_of_call-requires c = let p = c.requires in (p.0, (p.1.1.1.1, p.1.1.0))

pub common_from-requires : goal.common_from-requires
common_from-requires c = c.requires.0

pub returns : goal.returns
unfolding call_with
returns c =
    rw (c.call_at.ensures ∙ call-whole _ _ c.requires.1.0, c.random_of_call-o.ensures, c.emergency_of_call.ensures, c.common_from.ensures)
