-- `nch::read` meets its contract. Assumes nothing.
use mathlib.Core.Path.{ap, ◌∙◌}
use mathlib.Core.List.{List}
use Prim.Native.Nat.{ℕ}
use lib.ListN.{get_or}
use Rattle.nch.specs.Places.{used_at}
use Rattle.nch.specs.NotificationNumbers.{record_from, Fits}
use Rattle.nch.proofs.NotificationFits.{record_whole}
use Rattle.nch.proofs.InLimits.{read_fits, record_read, used-read, read_whole}
use Rattle.nch.proofs.read.Goals as goal

pub returns : goal.returns
returns c =
    let s = c.args.octets.now in
    let e = read_whole s _ c.read_into-refusal.ensures.1 in
    let f : Fits c.read_into-refusal.new.numbers = rw e (read_fits s) in
    λ i.
    record {
      refusal = c.read_into-refusal.ensures.0 i;
      used = (ap (λ (l : List ℕ). get_or l used_at 0) e ∙ used-read s) i;
      «record» = (c.record_from.ensures ∙ record_whole _ f ∙ ap record_from e ∙ record_read s) i;
    }
