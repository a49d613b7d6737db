-- `nch_write::write` meets its contract. Assumes nothing.
use mathlib.Core.Path.{sym, ◌∙◌}
use Rattle.nch_write.proofs.Putting.{write_refused, write_long, write-elsewhere, write_done}
use native.Mathlib.Omega.{arith}
use Rattle.nch_write.proofs.write.Goals as goal

pub returns-then-refusal-ne0 : goal.returns-then-refusal-ne0
returns-then-refusal-ne0 c =
    let a = c.args in
    write_refused a.m a.octets.now c.refusal-refusal.result c.refusal-refusal.ensures c.if-refusal-ne0.true

pub put_all-p-requires : goal.put_all-p-requires
put_all-p-requires c = sym c.refusal-refusal.ensures ∙ c.if-refusal-ne0.false

pub returns-then-used-gt160 : goal.returns-then-used-gt160
returns-then-used-gt160 c =
    let a = c.args in
    write_long a.m a.octets.now c.refusal-refusal.result c.refusal-refusal.ensures c.if-refusal-ne0.false c.put_all-p.result c.put_all-p.ensures (omega arith)

pub returns-then-octets-ne20 : goal.returns-then-octets-ne20
returns-then-octets-ne20 c =
    let a = c.args in
    write-elsewhere a.m a.octets.now c.refusal-refusal.result c.refusal-refusal.ensures c.if-refusal-ne0.false c.put_all-p.result c.put_all-p.ensures (omega arith) c.if-octets-ne20.true

pub returns : goal.returns
returns c =
    let a = c.args in
    let r = c.refusal-refusal in
    write_done a.m a.octets.now r.result r.ensures c.if-refusal-ne0.false c.put_all-p.result c.put_all-p.ensures (omega arith) c.if-octets-ne20.false c.store.new.octets c.store.ensures
