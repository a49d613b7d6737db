-- `layout::looking::rest_run` meets its contract. Assumes nothing.
use mathlib.Core.Path.{sym, ◌∙◌}
use native.Mathlib.Omega.{arith}
use Rattle.layout.proofs.NoneOut.{many, running-among, running-six}
use Rattle.layout.proofs.looking.rest_run.Goals as goal

pub returns-then-u64_at-eq0 : goal.returns-then-u64_at-eq0
returns-then-u64_at-eq0 c = let a = c.args in λ e. running-among a.tick a.b.now many 6 (omega arith) (sym c.u64_at.ensures ∙ c.if-u64_at-eq0.true)

pub late-requires : goal.late-requires
late-requires c = (c.requires.0, (omega arith, c.requires.1.0))

pub late-requires-2 : goal.late-requires-2
late-requires-2 c = (c.requires.0, (omega arith, c.requires.1.1.0))

pub late-requires-3 : goal.late-requires-3
late-requires-3 c = (c.requires.0, (omega arith, c.requires.1.1.1))

pub late-requires-4 : goal.late-requires-4
late-requires-4 c = (c.requires.0, (omega arith, c.requires.1.0))

pub late-requires-5 : goal.late-requires-5
late-requires-5 c = (c.requires.0, (omega arith, c.requires.1.1.0))

pub late-requires-6 : goal.late-requires-6
late-requires-6 c = (c.requires.0, (omega arith, c.requires.1.1.1))

pub returns : goal.returns
returns c =
    let a = c.args in
    running-six a.tick a.b.now many _ _ _ _ _ _ c.late.ensures c.late-2.ensures c.late-3.ensures c.late-4.ensures c.late-5.ensures c.late-6.ensures
