-- `facch::additions::read_parts7` meets its contract. Assumes nothing.
use mathlib.Core.Path.{◌∙◌}
use Rattle.facch.proofs.Callees.{uplink-bad, emergency-bad, cause-bad, parts7-told}
use Rattle.facch.proofs.additions.read_parts7.Goals as goal

pub returns-then-u-ne0 : goal.returns-then-u-ne0
returns-then-u-ne0 c =
    c.clipped7.ensures ∙ uplink-bad c.args.s.now c.args.at c.requires c.read_coded-u.result c.read_coded-u.ensures c.if-u-ne0.true

pub returns-then-e-ne0 : goal.returns-then-e-ne0
returns-then-e-ne0 c =
    c.clipped7-then-e-ne0.ensures ∙ emergency-bad c.args.s.now c.args.at c.requires c.read_coded-u.result c.read_coded-u.ensures c.if-u-ne0.false c.read_coded-e.result
    c.read_coded-e.ensures c.if-e-ne0.true

pub returns-then-p-ne0 : goal.returns-then-p-ne0
returns-then-p-ne0 c =
    c.clipped7-then-p-ne0.ensures ∙ cause-bad c.args.s.now c.args.at c.requires c.read_coded-u.result c.read_coded-u.ensures c.if-u-ne0.false c.read_coded-e.result c.read_coded-e.ensures
    c.if-e-ne0.false c.read_flagged-p.result c.read_flagged-p.ensures c.if-p-ne0.true

pub returns : goal.returns
returns c =
    parts7-told c.args.s.now c.args.at c.requires c.read_coded-u.result c.read_coded-u.ensures c.if-u-ne0.false c.read_coded-e.result c.read_coded-e.ensures c.if-e-ne0.false
    c.read_flagged-p.result c.read_flagged-p.ensures c.if-p-ne0.false c.no_refusal.result c.no_refusal.ensures
