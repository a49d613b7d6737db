-- `words::no_description` meets its contract. Assumes nothing.
use mathlib.Core.Path.{ap}
use mathlib.Core.Bool.{false}
use Rattle.call.specs.declared.Description.{Description}
use Rattle.words.proofs.no_description.Goals as goal

pub returns : goal.returns
returns c =
    ap (λ (x : Description). record { done = false; description = x; at = 0 }) c.no_description.ensures
