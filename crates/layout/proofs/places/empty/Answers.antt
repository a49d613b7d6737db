-- `layout::places::empty` meets its contract. Assumes nothing.
use mathlib.Core.Path.{ap, ◌∙◌}
use Rattle.receiver.specs.declared.Record.{Record}
use Rattle.receiver.specs.Model.{storing}
use Rattle.layout.specs.Layout.{put_slot}
use Rattle.layout.proofs.places.empty.Goals as goal

pub shape_of-b : goal.shape_of-b
shape_of-b c = c.put.auto.b

pub returns : goal.returns
returns c =
    let a = c.args in
    c.put.ensures ∙ ap (λ (e : Record). put_slot a.b.now a.i (storing 0 0 e)) c.no_record.ensures
