-- `facch::additions::read_parts6` meets its contract. Assumes nothing.
use mathlib.Core.Path.{◌∙◌}
use Rattle.facch.proofs.Callees.{count-bad, rand-bad, parts6-told}
use Rattle.facch.proofs.additions.read_parts6.Goals as goal

pub returns-then-c-ne0 : goal.returns-then-c-ne0
returns-then-c-ne0 c =
    c.clipped6.ensures ∙ count-bad c.args.s.now c.args.at c.requires c.read_count-c.result c.read_count-c.ensures c.if-c-ne0.true

pub returns-then-v-ne0 : goal.returns-then-v-ne0
returns-then-v-ne0 c =
    c.clipped6-then-v-ne0.ensures ∙ rand-bad c.args.s.now c.args.at c.requires c.read_count-c.result c.read_count-c.ensures c.if-c-ne0.false c.read_flagged-v.result c.read_flagged-v.ensures
    c.if-v-ne0.true

pub returns : goal.returns
returns c =
    parts6-told c.args.s.now c.args.at c.requires c.read_count-c.result c.read_count-c.ensures c.if-c-ne0.false c.read_flagged-v.result c.read_flagged-v.ensures c.if-v-ne0.false
    c.no_refusal.result c.no_refusal.ensures
