-- `trace::facch` meets its contract. Assumes nothing.
use Rattle.trace.proofs.Messages.{facch-short, facch-long, facch-all}
use Rattle.trace.proofs.facch.Goals as goal

pub returns-then-octets-lt2 : goal.returns-then-octets-lt2
returns-then-octets-lt2 c = let a = c.args in facch-short a.octets.now a.fields.now c.if-octets-lt2.true

pub returns-then-octets-gt23 : goal.returns-then-octets-gt23
returns-then-octets-gt23 c =
    let a = c.args in facch-long a.octets.now a.fields.now c.if-octets-lt2.false c.if-octets-gt23.true

pub returns : goal.returns
returns c =
    let a = c.args in facch-all a.octets.now a.fields.now c.if-octets-lt2.false c.if-octets-gt23.false c.message-r.ensures
