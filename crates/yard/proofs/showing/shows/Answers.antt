-- `yard::showing::shows` meets its contract. Assumes nothing.
use mathlib.Core.Path.{sym, ap, ◌∙◌}
use Rattle.layout.specs.Layout.{carries}
use Rattle.yard.proofs.ShownCalls.{shown-carries}
use Rattle.yard.proofs.showing.shows.Goals as goal

pub returns : goal.returns
returns c = let a = c.args in c.carries.ensures ∙ ap carries c.from.ensures ∙ sym (shown-carries a.b.now a.i)
