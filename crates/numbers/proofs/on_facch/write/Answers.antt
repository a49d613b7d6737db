-- `numbers::on_facch::write` meets its contract. Assumes nothing.
use mathlib.Core.Path.{◌∙◌}
use borrow.Author.Tests.{not-true, not-false}
use Rattle.arrays.proofs.Within.{within-rest}
use Rattle.numbers.specs.FacchPlaces.{paging_at}
use Rattle.numbers.specs.FacchNumbers.{most}
use Rattle.numbers.proofs.FacchFits.{write_long, write_wide, write_held}
use Rattle.numbers.proofs.on_facch.write.Goals as goal

pub returns-then-numbers-ne-LENGTH : goal.returns-then-numbers-ne-LENGTH
returns-then-numbers-ne-LENGTH c = let a = c.args in write_long a.numbers.now a.octets.now c.if-numbers-ne-LENGTH.true

pub returns-then-not-holds : goal.returns-then-not-holds
unfolding most
returns-then-not-holds c =
    let a = c.args in
    write_wide a.numbers.now a.octets.now c.if-numbers-ne-LENGTH.false
    (within-rest paging_at a.numbers.now most _ c.holds.ensures ∙ not-true _ c.if-not-holds.true-raw)

pub record_from-m-requires : goal.record_from-m-requires
unfolding most
record_from-m-requires c =
    let ns = c.args.numbers.now in
    (c.if-numbers-ne-LENGTH.false, within-rest paging_at ns most _ c.holds.ensures ∙ not-false _ c.if-not-holds.false-raw)

pub returns : goal.returns
unfolding most
returns c =
    let a = c.args in
    let n = c.if-numbers-ne-LENGTH.false in
    let h = within-rest paging_at a.numbers.now most _ c.holds.ensures ∙ not-false _ c.if-not-holds.false-raw in
    write_held a.numbers.now a.octets.now n c.record_from-m.result c.write.result _ h
    c.record_from-m.ensures c.write.ensures.0 c.write.ensures.1
