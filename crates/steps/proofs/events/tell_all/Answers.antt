-- `steps::events::tell_all` meets its contract. Assumes nothing.
use mathlib.Core.Path.{◌≡◌, refl, ◌∙◌}
use lib.ListN.{length, take, get_or, length-take}
use native.Mathlib.Omega.{arith}
use Rattle.receiver.specs.Model.{no_record}
use Rattle.steps.proofs.Entering.{entered_begin, entered_next, entered_all}
use Rattle.steps.proofs.events.tell_all.Goals as goal

pub loop-i-init : goal.loop-i-init
loop-i-init c = entered_begin _ _ _ _ _ (rw c.told_only-told.ensures)

pub loop-i-preserved : goal.loop-i-preserved
loop-i-preserved c =
    let all-items' : length (take c.args.e.count c.args.e.items) ≡ c.args.e.count = length-take c.args.e.count c.args.e.items ∙ omega (arith, c.requires.1) in
    let l = c.loop-i in
    let a = c.args in
    entered_next a.r.now a.ch a.now (take a.e.count a.e.items) l.told l.r l.i l.invariant (get_or (take a.e.count a.e.items) l.i no_record) (omega (arith, c.requires.1))
    (omega arith) (refl) _ _ c.tell.ensures.0 c.tell.ensures.1

pub returns : goal.returns
returns c =
    let all-items' : length (take c.args.e.count c.args.e.items) ≡ c.args.e.count = length-take c.args.e.count c.args.e.items ∙ omega (arith, c.requires.1) in
    let l = c.loop-i in
    entered_all _ _ _ _ _ _ _ l.invariant (omega (arith, all-items'))
