-- `nch_write::put_call` meets its contract. Assumes nothing.
use mathlib.Core.Path.{ap}
use Prim.Native.Nat.{ℕ, ◌+◌}
use Rattle.csn1.proofs.Holding.{length-num_bits}
use Rattle.call.proofs.Put.{call-short}
use Rattle.pen.proofs.CallBits.{right-fits, call-written}
use Rattle.nch_write.proofs.Putting.{call_put}
use native.Mathlib.Omega.{arith}
use Rattle.nch_write.proofs.put_call.Goals as goal

pub overflow_add-result : goal.overflow_add-result
overflow_add-result c =
    let f = c.put-led.ensures in
    omega (arith, c.requires.0, f.next, length-num_bits 1 1, c.size.ensures, call-short c.args.c c.requires.1)

pub returns : goal.returns
returns c =
    let a = c.args in
    let f = c.put-led.ensures in
    let e = c.size.ensures in
    let g = call-written c.put-led.result.words c.put.result a.c c.put.ensures (right-fits a.c c.requires.1) in
    (call_put a.c f (ap (λ (k : ℕ). c.put-led.result.at + k) e) g, omega (arith, f.next, length-num_bits 1 1, e, call-short a.c c.requires.1))
