-- `nch::numbers::random_no` meets its contract. Assumes nothing.
use Rattle.nch.specs.NotificationNumbers.{random_from}
use Rattle.nch.proofs.numbers.random_no.Goals as goal

pub returns : goal.returns
unfolding random_from
returns c =
    λ i.
    record {
      segment = c.flag_at.ensures i;
      hasRandom = c.flag_at-2.ensures i;
      rand = c.number_at.ensures i;
    }
