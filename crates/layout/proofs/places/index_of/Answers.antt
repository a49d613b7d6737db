-- `layout::places::index_of` meets its contract. Assumes nothing.
use mathlib.Core.Path.{ap, sym, ◌∙◌}
use native.Mathlib.Omega.{arith}
use Rattle.receiver.specs.Model.{index_of}
use Rattle.layout.specs.Layout.{keys_in}
use Rattle.layout.proofs.States.{at-state, no_state}
use Rattle.layout.proofs.Finding.{found_none}
use Rattle.layout.proofs.places.index_of.Goals as goal

pub returns-then-b-ne-LENGTH : goal.returns-then-b-ne-LENGTH
returns-then-b-ne-LENGTH c = sym (no_state c.args.b.now _ _ c.if-b-ne-LENGTH.true)

pub returns-then-key-gt4294967295 : goal.returns-then-key-gt4294967295
returns-then-key-gt4294967295 c =
    let a = c.args in
    found_none a.b.now a.key (λ k. omega (arith, c.type_inv.b k)) c.if-key-gt4294967295.true ∙ sym (at-state a.b.now _ _ c.if-b-ne-LENGTH.false)

pub returns : goal.returns
returns c =
    let a = c.args in
    c.place_in.ensures ∙ ap (index_of (keys_in a.b.now)) c.narrow.ensures
    ∙ sym (at-state a.b.now _ _ c.if-b-ne-LENGTH.false)
