-- `layout::setup::setup` meets its contract. Assumes nothing.
use mathlib.Core.Path.{sym, ◌∙◌}
use Prim.Native.Nat.{◌<◌}
use native.Mathlib.Omega.{arith}
use borrow.Author.Tests.{not-true, not-false}
use Rattle.receiver.proofs.Keys.{right_keys}
use Rattle.layout.proofs.Fresh.{decode_fresh}
use Rattle.layout.proofs.Setting.{set_wrong, set_not_right, set-refused, set-accepted}
use Rattle.layout.proofs.setup.setup.Goals as goal

pub returns-then-b-ne-LENGTH : goal.returns-then-b-ne-LENGTH
returns-then-b-ne-LENGTH c =
    let a = c.args in
    set-refused a.b.now a.s a.keys.now a.sets.now 13 (set_wrong a.b.now a.s a.keys.now a.sets.now c.if-b-ne-LENGTH.true) (λ e. omega (arith, e))

pub returns-then-not-is_right : goal.returns-then-not-is_right
returns-then-not-is_right c =
    let a = c.args in
    let wrong = sym c.is_right.ensures ∙ not-true _ c.if-not-is_right.true-raw in
    set-refused a.b.now a.s a.keys.now a.sets.now 10 (set_not_right a.b.now a.s a.keys.now a.sets.now c.if-b-ne-LENGTH.false wrong) (λ e. omega (arith, e))

pub fill-requires : goal.fill-requires
fill-requires c =
    let a = c.args in
    let right = sym c.is_right.ensures ∙ not-false _ c.if-not-is_right.false-raw in
    (c.if-b-ne-LENGTH.false, (right_keys a.s a.keys.now a.sets.now right).0)

pub returns : goal.returns
returns c =
    let tick-fits' : c.args.s.tick < 4294967296 = omega arith in
    let t3206_fits' : c.args.s.t3206 < 4294967296 = omega arith in
    let t3208_fits' : c.args.s.t3208 < 4294967296 = omega arith in
    let t3210_fits' : c.args.s.t3210 < 4294967296 = omega arith in
    let a = c.args in
    let right = sym c.is_right.ensures ∙ not-false _ c.if-not-is_right.false-raw in
    rw c.fill.ensures
    (set-accepted a.b.now a.s a.keys.now a.sets.now c.if-b-ne-LENGTH.false right
    (decode_fresh a.s a.keys.now a.sets.now tick-fits' t3206_fits' t3208_fits' t3210_fits'
    (λ j. omega (arith, c.type_inv.keys j)) (λ j. omega (arith, c.type_inv.sets j))))
