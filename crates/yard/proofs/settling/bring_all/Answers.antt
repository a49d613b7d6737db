-- `yard::settling::bring_all` meets its contract. Assumes nothing.
use mathlib.Core.Path.{sym, ◌∙◌}
use Rattle.yard.proofs.Inside.{whole-inside}
use Rattle.yard.proofs.Quiet.{brought-all}
use Rattle.yard.proofs.settling.bring_all.Goals as goal

pub slice_bounds-entries-end-2 : goal.slice_bounds-entries-end-2
slice_bounds-entries-end-2 c = sym (whole-inside c.args.b.now c.requires)

pub entries-n-requires : goal.entries-n-requires
entries-n-requires c = whole-inside c.args.b.now c.requires

pub bring_first-requires : goal.bring_first-requires
bring_first-requires c = (c.requires, c.entries-n.ensures.0)

pub returns : goal.returns
returns c =
    c.bring_first.ensures ∙ brought-all c.args.b.now c.entries-n.result c.entries-n.ensures.0 c.entries-n.ensures.1
