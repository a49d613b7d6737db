-- `capture::mending::put_part` meets its contract. Assumes nothing.
use Rattle.std.proofs.Common.{sym, ◌∙◌}
use Rattle.text.proofs.Lines.{placed_behind, fits_behind}
use Rattle.capture.proofs.Mendings.{wrote-copy, wrote-left}
use Rattle.capture.proofs.mending.put_part.Goals as goal

pub unwrap-requires : goal.unwrap-requires
unwrap-requires c =
    let a = c.args in
    fits_behind a.copy.now a.octets.now a.copied _ c.requires.0 c.put.ensures.place

pub returns-then-refusal-eq0 : goal.returns-then-refusal-eq0
returns-then-refusal-eq0 c =
    let a = c.args in
    wrote-copy a.octets.now a.m.replay.number a.m.offset a.refusal a.copy.now a.copied a.list.now a.listed c.if-refusal-eq0.true _ _
    (placed_behind a.copy.now a.octets.now _ a.copied _ c.put.ensures.octets (sym c.put.ensures.place ∙ c.unwrap.ensures))

pub put_left-requires : goal.put_left-requires
put_left-requires c =
    c.requires.1

pub returns : goal.returns
returns c =
    let a = c.args in
    wrote-left a.octets.now a.m.replay.number a.m.offset a.refusal a.copy.now a.copied a.list.now a.listed c.if-refusal-eq0.false _ _ c.put_left.ensures
