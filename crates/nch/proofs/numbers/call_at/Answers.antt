-- `nch::numbers::call_at` meets its contract. Assumes nothing.
use Rattle.nch.specs.CallNumbers.{call_by}
use Rattle.nch.proofs.numbers.call_at.Goals as goal

pub returns : goal.returns
unfolding call_by
returns c =
    λ i.
    record {
      reference = c.word_at.ensures i;
      vgcs = c.flag_at.ensures i;
      acknowledged = c.flag_at-2.ensures i;
      priority = c.octet_at.ensures i;
      cipher = c.octet_at-2.ensures i;
      hasDescription = c.flag_at-3.ensures i;
      description = c.description_at.ensures i;
    }
