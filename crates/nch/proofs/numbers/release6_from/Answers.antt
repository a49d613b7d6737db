-- `nch::numbers::release6_from` meets its contract. Assumes nothing.
use Rattle.nch.specs.NotificationNumbers.{release6_by}
use Rattle.nch.proofs.numbers.release6_from.Goals as goal

pub returns : goal.returns
unfolding release6_by
returns c =
    λ i.
    record {
      hasRelease = c.flag_at.ensures i;
      hasCount = c.flag_at-2.ensures i;
      cellcount = c.octet_at.ensures i;
      reducedcount = c.number_at.ensures i;
      reduced = c.reduceds_from.ensures i;
      randomcount = c.number_at-2.ensures i;
      randoms = c.randoms_from.ensures i;
    }
