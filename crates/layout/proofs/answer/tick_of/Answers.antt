-- `layout::answer::tick_of` meets its contract. Assumes nothing.
use mathlib.Core.Path.{sym, ◌∙◌}
use Rattle.layout.proofs.States.{at-state, no_state}
use Rattle.layout.proofs.answer.tick_of.Goals as goal

pub returns-then-b-ne-LENGTH : goal.returns-then-b-ne-LENGTH
returns-then-b-ne-LENGTH c = sym (no_state c.args.b.now _ _ c.if-b-ne-LENGTH.true)

pub returns : goal.returns
returns c = c.u32_at.ensures ∙ sym (at-state c.args.b.now _ _ c.if-b-ne-LENGTH.false)
