-- `layout::looking::eight_run` meets its contract. Assumes nothing.
use mathlib.Core.Path.{◌∙◌}
use Prim.Native.Nat.{◌+◌}
use native.Mathlib.Omega.{arith}
use Rattle.layout.proofs.Sweeps.{timer-same}
use Rattle.layout.proofs.NoneOut.{running-eight}
use Rattle.layout.proofs.looking.eight_run.Goals as goal

pub late-requires : goal.late-requires
late-requires c = (c.requires.0, (omega arith, c.requires.1.1.0))

pub late-requires-2 : goal.late-requires-2
late-requires-2 c = (c.requires.0, (omega arith, c.requires.1.1.1.0))

pub late-requires-3 : goal.late-requires-3
late-requires-3 c = (c.requires.0, (omega arith, c.requires.1.1.1.1))

pub late-requires-4 : goal.late-requires-4
late-requires-4 c =
    let a = c.args in
    (c.requires.0, (omega arith, c.requires.1.1.0 ∙ timer-same a.b.now a.from (a.from + 3) (omega arith)))

pub late-requires-5 : goal.late-requires-5
late-requires-5 c =
    let a = c.args in
    (c.requires.0, (omega arith, c.requires.1.1.1.0 ∙ timer-same a.b.now (a.from + 1) (a.from + 4) (omega arith)))

pub late-requires-6 : goal.late-requires-6
late-requires-6 c =
    let a = c.args in
    (c.requires.0, (omega arith, c.requires.1.1.1.1 ∙ timer-same a.b.now (a.from + 2) (a.from + 5) (omega arith)))

pub late-requires-7 : goal.late-requires-7
late-requires-7 c =
    let a = c.args in
    (c.requires.0, (omega arith, c.requires.1.1.0 ∙ timer-same a.b.now a.from (a.from + 6) (omega arith)))

pub late-requires-8 : goal.late-requires-8
late-requires-8 c =
    let a = c.args in
    (c.requires.0, (omega arith, c.requires.1.1.1.0 ∙ timer-same a.b.now (a.from + 1) (a.from + 7) (omega arith)))

pub returns : goal.returns
returns c =
    let a = c.args in
    running-eight a.tick a.b.now a.from _ _ _ _ _ _ _ _ c.late.ensures c.late-2.ensures c.late-3.ensures c.late-4.ensures c.late-5.ensures c.late-6.ensures c.late-7.ensures c.late-8.ensures
