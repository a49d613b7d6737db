-- `lent::entries::reduced_entry` meets its contract. Assumes nothing.
use Rattle.receiver.specs.Entries.{reduced_with}
use Rattle.lent.proofs.entries.reduced_entry.Goals as goal

pub random_at-o-requires : goal.random_at-o-requires
random_at-o-requires c = let p = c.requires in (p.0, p.1.1.1)

pub reduced_call-requires : goal.reduced_call-requires
reduced_call-requires c = let p = c.requires in (p.1.0, p.1.1.0)

pub common_from-requires : goal.common_from-requires
common_from-requires c = c.requires.0

pub returns : goal.returns
unfolding reduced_with
returns c = rw (c.reduced_call.ensures, c.random_at-o.ensures, c.common_from.ensures)
