-- `trace::nch` meets its contract. Assumes nothing.
use Rattle.trace.proofs.Messages.{nch-none, nch-all}
use Rattle.trace.proofs.nch.Goals as goal

pub returns-then-octets-ne20 : goal.returns-then-octets-ne20
returns-then-octets-ne20 c = let a = c.args in nch-none a.octets.now a.fields.now c.if-octets-ne20.true

pub returns : goal.returns
returns c =
    let a = c.args in nch-all a.octets.now a.fields.now c.if-octets-ne20.false c.rest-r.ensures
