-- `numbers::on_facch::release7_from` meets its contract. Assumes nothing.
use Rattle.numbers.specs.FacchNumbers.{release7_from}
use Rattle.numbers.proofs.on_facch.release7_from.Goals as goal

pub returns : goal.returns
unfolding release7_from
returns c =
    λ i.
    record {
      hasRelease = c.flag_at.ensures i;
      uplink = c.flag_at-2.ensures i;
      emergency = c.flag_at-3.ensures i;
      hasCause = c.flag_at-4.ensures i;
      cause = c.flag_at-5.ensures i;
    }
