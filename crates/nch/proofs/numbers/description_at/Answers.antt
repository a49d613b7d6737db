-- `nch::numbers::description_at` meets its contract. Assumes nothing.
use Rattle.nch.specs.CallNumbers.{description_by}
use Rattle.nch.proofs.numbers.description_at.Goals as goal

pub returns : goal.returns
unfolding description_by
returns c =
    λ i.
    record {
      channel = c.word_at.ensures i;
      hopping = c.flag_at.ensures i;
      shortlist = c.flag_at-2.ensures i;
      length = c.octet_at.ensures i;
      frequencies = c.number_at.ensures i;
    }
