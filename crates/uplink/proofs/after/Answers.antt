-- `uplink::after` meets its contract. Assumes nothing.
use Rattle.uplink.specs.Uplink.{after_signal}
use Rattle.uplink.proofs.after.Goals as goal

pub returns-in-Free : goal.returns-in-Free
unfolding after_signal
returns-in-Free c = rw c.in-Free.is

pub returns-in-Busy : goal.returns-in-Busy
unfolding after_signal
returns-in-Busy c = rw c.in-Busy.is

pub returns-in-Request : goal.returns-in-Request
unfolding after_signal
returns-in-Request c = rw (c.in-Request.is, c.asking.ensures)

pub returns-in-Tick : goal.returns-in-Tick
unfolding after_signal
returns-in-Tick c = rw c.in-Tick.is
