-- `gcc::cause::kept` meets its contract. Assumes nothing.
use mathlib.Core.Path.{◌∙◌}
use Rattle.gcc.proofs.Causes.{copied-places}
use Rattle.gcc.proofs.cause.kept.Goals as goal

pub returns : goal.returns
returns c = c.copy.ensures ∙ copied-places c.args.octets.now
