-- `nch::numbers::reduced_no` meets its contract. Assumes nothing.
use Rattle.nch.specs.NotificationNumbers.{reduced_by}
use Rattle.nch.proofs.numbers.reduced_no.Goals as goal

pub returns : goal.returns
unfolding reduced_by
returns c =
    λ i.
    record {
      reference = c.word_at.ensures i;
      vgcs = c.flag_at.ensures i;
    }
