-- `trace::rest::random` meets its contract. Assumes nothing.
use Rattle.trace.proofs.Tracing.{traced_noted, traced_and}
use Rattle.trace.proofs.rest.random.Goals as goal

pub returns : goal.returns
returns c =
    traced_and c.requires (traced_noted c.note-n.ensures) c.flagged.ensures
