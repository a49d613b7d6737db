-- `facch::taking::take_release7` meets its contract. Assumes nothing.
use mathlib.Core.Path.{refl}
use Rattle.facch.proofs.Taken.{as_low, as_high, seven-end, seven-low, seven-told}
use native.Mathlib.Omega.{arith}
use Rattle.facch.proofs.taking.take_release7.Goals as goal

pub returns-then-at-from : goal.returns-then-at-from
returns-then-at-from c =
    let a = c.args in
    (omega arith, λ s e l. seven-end s a.at _ l a.from c.if-at-from.true _ c.no_release7.ensures refl)

pub returns-then-not-is_high : goal.returns-then-not-is_high
returns-then-not-is_high c =
    let a = c.args in
    let low = c.if-not-is_high.true-raw in (
      omega arith,
      λ s e l.
          seven-low s a.at _ l a.from c.if-at-from.false (as_low s _ _ _ refl low (c.is_high.ensures s e))
          _ c.no_release7-then-not-is_high.ensures refl,
    )

pub returns : goal.returns
returns c =
    let a = c.args in (
      omega (arith, c.take_flagged-p.ensures.0),
      λ s e l.
          seven-told s a.at _ l a.from c.if-at-from.false (as_high s _ _ _ refl c.if-not-is_high.false-raw (c.is_high.ensures s e))
          _ _ (c.is_high-uplink.ensures s e) (c.is_high-emergency.ensures s e) _ (c.take_flagged-p.ensures.1 s a.at e),
    )
