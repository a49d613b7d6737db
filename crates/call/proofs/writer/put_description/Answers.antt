-- `call::writer::put_description` meets its contract. Assumes nothing.
use mathlib.Core.Path.{◌∙◌}
use Rattle.csn1.proofs.Writing.{byte_lt}
use Rattle.call.proofs.Put.{still_put, hopping_put, frequencies-room}
use native.Mathlib.Omega.{arith}
use Rattle.call.proofs.writer.put_description.Goals as goal

pub overflow_add-d : goal.overflow_add-d
overflow_add-d c = let a = c.args in omega (arith, byte_lt a.d.hopping)

pub put_frequencies-requires : goal.put_frequencies-requires
put_frequencies-requires c = let a = c.args in frequencies-room a.buf.now c.put.new.buf a.at a.d c.requires c.put.ensures.1 c.if-d.true

pub returns-then-d : goal.returns-then-d
returns-then-d c = let a = c.args in c.put_frequencies.ensures ∙ hopping_put a.buf.now c.put.new.buf a.at a.d c.requires c.put.ensures.1 c.if-d.true

pub returns-else-d : goal.returns-else-d
returns-else-d c = let a = c.args in still_put a.buf.now c.put.new.buf a.at a.d c.requires c.put.ensures.1 c.if-d.false
