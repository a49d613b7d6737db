-- `words::no_call` meets its contract. Assumes nothing.
use mathlib.Core.Path.{ap}
use Rattle.call.specs.declared.Call.{Call}
use mathlib.Core.Bool.{false}
use Rattle.words.proofs.no_call.Goals as goal

pub returns : goal.returns
returns c =
    ap (λ (x : Call). record { done = false; call = x; at = 0; next = 0 }) c.no_call.ensures
