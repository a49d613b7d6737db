-- `call::writer::put_frequencies` meets its contract. Assumes nothing.
use Rattle.call.proofs.Put.{list_put, octets_put}
use Rattle.call.proofs.writer.put_frequencies.Goals as goal

pub returns-then-d : goal.returns-then-d
returns-then-d c = let a = c.args in list_put a.buf.now c.put.new.buf c.put-then-d.new.buf a.at a.d.length a.d.frequencies a.d.shortlist c.requires c.if-d.true c.put.ensures.1 c.put-then-d.ensures.1

pub returns : goal.returns
returns c = let a = c.args in octets_put a.buf.now c.put-2.new.buf c.put-3.new.buf a.at a.d.length a.d.frequencies a.d.shortlist c.requires c.if-d.false c.put-2.ensures.1 c.put-3.ensures.1
