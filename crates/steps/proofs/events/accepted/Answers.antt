-- `steps::events::accepted` meets its contract. Assumes nothing.
use mathlib.Core.Path.{◌≡◌, sym, ◌∙◌}
use lib.ListN.{length, take, length-take}
use Rattle.steps.proofs.Entering.{accepted-told}
use native.Mathlib.Omega.{arith}
use Rattle.steps.proofs.events.accepted.Goals as goal

pub returns : goal.returns
returns c =
    let a = c.args in
    let n : a.e.count ≡ length (take a.e.count a.e.items) = sym (length-take a.e.count a.e.items ∙ omega (arith, c.requires.1)) in
    accepted-told a.r a.now a.ch a.cell a.rule (take a.e.count a.e.items) c.no_refusal.ensures c.sweep-swept.ensures.0 c.sweep-swept.ensures.1.0 c.sweep-swept.ensures.1.1 n
    c.tell_all-entries.ensures.0 c.tell_all-entries.ensures.1 c.no_paged.ensures
