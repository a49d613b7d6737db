-- `numbers::on_facch::page_from` meets its contract. Assumes nothing.
use mathlib.Core.Path.{◌∙◌}
use Rattle.numbers.specs.FacchNumbers.{page_from}
use Rattle.numbers.proofs.FacchFits.{length_whole, first-whole, channel-whole, priority-whole}
use Rattle.numbers.proofs.on_facch.page_from.Goals as goal

pub returns : goal.returns
unfolding page_from
returns c =
    let ns = c.args.numbers.now in
    let w = c.requires in
    let length = c.octet_at.ensures ∙ length_whole ns w in
    let first = c.octet_at-2.ensures ∙ first-whole ns w in
    let channel = c.octet_at-3.ensures ∙ channel-whole ns w in
    let priority = c.octet_at-4.ensures ∙ priority-whole ns w in
    λ i.
    record {
      identityLength = length i;
      identityFirst = first i;
      identityRest = c.number_at.ensures i;
      channelFirst = channel i;
      hasPriority = c.flag_at.ensures i;
      priority = priority i;
    }
