-- `layout::answer::put_number` meets its contract. Assumes nothing.
use mathlib.Core.Path.{sym, ◌∙◌}
use Rattle.receiver.specs.Step.{most_entries}
use Rattle.layout.proofs.States.{in_none, no_such, at_entry}
use Rattle.layout.proofs.answer.put_number.Goals as goal

pub returns-then-b-ne-LENGTH : goal.returns-then-b-ne-LENGTH
returns-then-b-ne-LENGTH c = sym (in_none c.args.b.now most_entries c.args.j _ _ c.if-b-ne-LENGTH.true)

pub returns-then-j-ge-MOST_ENTRIES : goal.returns-then-j-ge-MOST_ENTRIES
returns-then-j-ge-MOST_ENTRIES c = sym (no_such c.args.b.now most_entries c.args.j _ _ c.if-b-ne-LENGTH.false c.if-j-ge-MOST_ENTRIES.true)

pub returns : goal.returns
returns c =
    let a = c.args in
    c.put_said.ensures ∙ sym (at_entry a.b.now a.j _ _ c.if-b-ne-LENGTH.false c.if-j-ge-MOST_ENTRIES.false)
