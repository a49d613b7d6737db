-- `uplink::told_of` meets its contract. Assumes nothing.
use Rattle.uplink.specs.Uplink.{told_of}
use Rattle.uplink.proofs.told_of.Goals as goal

pub returns-in-Free : goal.returns-in-Free
unfolding told_of
returns-in-Free c = rw c.in-Free.is

pub returns-in-Busy : goal.returns-in-Busy
unfolding told_of
returns-in-Busy c = rw c.in-Busy.is

pub returns-in-Request : goal.returns-in-Request
unfolding told_of
returns-in-Request c = rw (c.in-Request.is, c.asked_for.ensures)

pub returns-in-Tick : goal.returns-in-Tick
unfolding told_of
returns-in-Tick c = rw c.in-Tick.is
