-- `numbers::on_facch::record_from` meets its contract. Assumes nothing.
use mathlib.Core.Path.{◌∙◌}
use Rattle.numbers.specs.FacchNumbers.{record_from}
use Rattle.numbers.proofs.FacchFits.{facch-call-whole}
use Rattle.numbers.proofs.on_facch.record_from.Goals as goal

pub page_from-requires : goal.page_from-requires
page_from-requires c = c.requires.1

pub release6_from-requires : goal.release6_from-requires
release6_from-requires c = c.requires.1

pub returns : goal.returns
unfolding record_from
returns c =
    let p = c.requires in
    let call = c.call_at.ensures ∙ facch-call-whole c.args.numbers.now p.1 p.0 in
    λ i.
    record {
      paging = c.flag_at.ensures i;
      call = call i;
      page = c.page_from.ensures i;
      release6 = c.release6_from.ensures i;
      release7 = c.release7_from.ensures i;
    }
