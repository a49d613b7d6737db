-- `facch::taking::take_release6` meets its contract. Assumes nothing.
use mathlib.Core.Path.{refl}
use native.Mathlib.Nat.{add-zero}
use Rattle.facch.proofs.Taken.{as_low, as_high, six-end, six_low, six-told}
use native.Mathlib.Omega.{arith}
use Rattle.facch.proofs.taking.take_release6.Goals as goal

pub returns-then-at-end : goal.returns-then-at-end
returns-then-at-end c =
    (omega arith, λ s e l. six-end s c.args.at _ l c.if-at-end.true _ c.no_release6.ensures refl)

pub returns-then-not-is_high : goal.returns-then-not-is_high
returns-then-not-is_high c =
    let p = c.args.at in
    let low = c.if-not-is_high.true-raw in (
      omega arith,
      λ s e l.
          six_low s p _ l c.if-at-end.false (as_low s _ p _ (add-zero p) low (c.is_high.ensures s e))
          _ c.no_release6-then-not-is_high.ensures refl,
    )

pub take_flagged-v-requires : goal.take_flagged-v-requires
take_flagged-v-requires c =
    omega (arith, c.take_count-c.ensures.0)

pub returns : goal.returns
returns c =
    let p = c.args.at in (
      omega (arith, c.take_flagged-v.ensures.0, c.take_count-c.ensures.0),
      λ s e l.
          six-told s p _ l c.if-at-end.false (as_high s _ p _ (add-zero p) c.if-not-is_high.false-raw (c.is_high.ensures s e))
          _ (c.take_count-c.ensures.1 s p e) _ (c.take_flagged-v.ensures.1 s p e),
    )
