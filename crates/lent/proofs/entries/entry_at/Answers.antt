-- `lent::entries::entry_at` meets its contract. Assumes nothing.
use Rattle.lent.proofs.entries.entry_at.Goals as goal

pub call_entry-requires : goal.call_entry-requires
call_entry-requires c = let p = c.requires in let e = p.1.1.call c.if-full.true in (p.0, (e.0, (e.1.0, (p.1.0, e.1.1))))

pub returns-then-full : goal.returns-then-full
returns-then-full c = rw c.if-full.true c.call_entry.ensures

pub reduced_entry-requires : goal.reduced_entry-requires
reduced_entry-requires c = let p = c.requires in (p.0, (p.1.1.reduced c.if-full.false, (p.1.1.there, p.1.0)))

pub returns : goal.returns
returns c = rw c.if-full.false c.reduced_entry.ensures
