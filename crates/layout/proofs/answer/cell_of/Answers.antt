-- `layout::answer::cell_of` meets its contract. Assumes nothing.
use mathlib.Core.Path.{sym}
use Rattle.layout.proofs.States.{at-state, no_state}
use Rattle.layout.proofs.answer.cell_of.Goals as goal

pub returns-then-b-ne-LENGTH : goal.returns-then-b-ne-LENGTH
returns-then-b-ne-LENGTH c = sym (no_state c.args.b.now _ _ c.if-b-ne-LENGTH.true)

pub returns : goal.returns
returns c =
    sym (at-state c.args.b.now _ _ c.if-b-ne-LENGTH.false)
