-- `uplink::Setup::start` meets its contract. Assumes nothing.
use mathlib.Core.Path.{sym, ◌∙◌}
use Rattle.uplink.specs.Uplink.{started_of}
use Rattle.uplink.proofs.Setup.start.Goals as goal

pub returns-then-not-is_timer : goal.returns-then-not-is_timer
unfolding started_of
returns-then-not-is_timer c = rw (sym c.is_timer.ensures ∙ c.if-not-is_timer.true)

pub returns : goal.returns
unfolding started_of
returns c = rw (sym c.is_timer.ensures ∙ c.if-not-is_timer.false)
