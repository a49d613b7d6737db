-- `nch::numbers::release7_from` meets its contract. Assumes nothing.
use mathlib.Core.List.{[], ◌∷◌}
use Rattle.nch.specs.NotificationNumbers.{release7_by}
use Rattle.nch.proofs.numbers.release7_from.Goals as goal

pub returns : goal.returns
unfolding release7_by
returns c =
    λ i.
    record {
      hasRelease = c.flag_at.ensures i;
      markcount = c.number_at.ensures i;
      marks =
          c.flag_at-2.ensures i
          ∷ c.flag_at-3.ensures i
          ∷ c.flag_at-4.ensures i
          ∷ c.flag_at-5.ensures i
          ∷ [];
      hasUplink = c.flag_at-6.ensures i;
      uplink = c.flag_at-7.ensures i;
      hasAmr = c.flag_at-8.ensures i;
      hasFullrate = c.flag_at-9.ensures i;
      fullrate = c.octet_at.ensures i;
      hasHalfrate = c.flag_at-10.ensures i;
      halfrate = c.octet_at-2.ensures i;
      hasSms = c.flag_at-11.ensures i;
      confidential = c.flag_at-12.ensures i;
      private = c.flag_at-13.ensures i;
    }
