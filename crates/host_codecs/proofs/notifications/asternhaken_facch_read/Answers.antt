-- `host_codecs::notifications::asternhaken_facch_read` meets its contract. Assumes nothing.
use mathlib.Core.Path.{ap, ◌∙◌}
use Rattle.csn1.specs.Told.{code_of}
use Rattle.host_codecs.proofs.notifications.asternhaken_facch_read.Goals as goal

pub returns : goal.returns
returns c = (c.code.ensures ∙ ap code_of c.read-r.ensures.0, c.read-r.ensures.1)
