-- `nch::numbers::record_from` meets its contract. Assumes nothing.
use mathlib.Core.List.{[], ◌∷◌}
use Rattle.nch.specs.NotificationNumbers.{record_by}
use Rattle.nch.proofs.numbers.record_from.Goals as goal

pub returns : goal.returns
unfolding record_by
returns c =
    λ i.
    record {
      hasNln = c.flag_at.ensures i;
      nln = c.octet_at.ensures i;
      callcount = c.number_at.ensures i;
      calls =
          c.call_no.ensures i
          ∷ c.call_no-2.ensures i
          ∷ c.call_no-3.ensures i
          ∷ c.call_no-4.ensures i
          ∷ [];
      release6 = c.release6_from.ensures i;
      release7 = c.release7_from.ensures i;
    }
