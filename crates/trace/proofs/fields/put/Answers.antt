-- `trace::fields::put` meets its contract. Assumes nothing.
use mathlib.Core.Path.{sym, ◌∙◌}
use native.Mathlib.Omega.{arith}
use Rattle.csn1.proofs.Reading.{found, missing}
use Rattle.trace.proofs.Rows.{put_value}
use Rattle.trace.proofs.fields.put.Goals as goal

pub returns-in_default : goal.returns-in_default
returns-in_default c =
    let a = c.args in
    absurd (let m = missing a.s.now a.at a.width c.requires.1 (sym c.in_default.is ∙ c.fetch.ensures) in omega (arith, c.requires.0))

pub returns : goal.returns
returns c =
    let a = c.args in
    let f = found a.s.now a.at a.width _ (sym c.in-Bits.is ∙ c.fetch.ensures) in
    (f.is, c.run.ensures ∙ put_value a.fields.now a.n a.kind a.at a.width _ _ f.is)
