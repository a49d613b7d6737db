-- `numbers::on_facch::release6_from` meets its contract. Assumes nothing.
use mathlib.Core.Path.{◌∙◌}
use Rattle.numbers.specs.FacchNumbers.{release6_from}
use Rattle.numbers.proofs.FacchFits.{cellcount-whole}
use Rattle.numbers.proofs.on_facch.release6_from.Goals as goal

pub returns : goal.returns
unfolding release6_from
returns c =
    let cellcount = c.octet_at.ensures ∙ cellcount-whole c.args.numbers.now c.requires in
    λ i.
    record {
      hasRelease = c.flag_at.ensures i;
      hasCount = c.flag_at-2.ensures i;
      cellcount = cellcount i;
      b22 = c.flag_at-3.ensures i;
      hasRandom = c.flag_at-4.ensures i;
      rand = c.number_at.ensures i;
    }
