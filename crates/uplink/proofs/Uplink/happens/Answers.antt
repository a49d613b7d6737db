-- `uplink::Uplink::happens` meets its contract. Assumes nothing.
use mathlib.Core.Path.{sym, ◌∙◌}
use Rattle.uplink.specs.Uplink.{step_of}
use Rattle.uplink.proofs.Uplink.happens.Goals as goal

pub returns-then-is_late : goal.returns-then-is_late
unfolding step_of
returns-then-is_late c = rw (sym c.is_late.ensures ∙ c.if-is_late.true)

pub returns : goal.returns
unfolding step_of
returns c =
    simp (
      sym c.is_late.ensures ∙ c.if-is_late.false,
      c.end_of.ensures,
      c.told_of.ensures,
      c.after.ensures,
      c.passed-p.ensures,
    )
