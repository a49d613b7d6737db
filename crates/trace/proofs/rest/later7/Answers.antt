-- `trace::rest::later7` meets its contract. Assumes nothing.
use Rattle.trace.proofs.Tracing.{traced_later-none, traced_later-some}
use Rattle.trace.proofs.rest.later7.Goals as goal

pub returns-then-h-eq0 : goal.returns-then-h-eq0
returns-then-h-eq0 c =
    traced_later-none c.lead-h.ensures c.if-h-eq0.true

pub returns : goal.returns
returns c =
    traced_later-some c.lead-h.ensures c.if-h-eq0.false c.parts7.ensures
