-- A call of `feed` takes no more than it is offered. Assumes nothing.
use mathlib.Core.Path.{◌≡◌, ap, ◌∙◌}
use mathlib.Core.List.{List}
use native.Mathlib.Omega.{arith}
use Prim.Native.Nat.{ℕ, ◌≤◌}
use lib.ListN.{length}
use Rattle.receiver.proofs.Cases.{by-test}
use Rattle.text.specs.Lines.{Line}
use Rattle.capture.specs.declared.Fed.{Fed}
use Rattle.capture.specs.Machine.{Machine, Taken, fed_by, is_ready, Replayed}
use Rattle.capture.proofs.Promises.{a_call_takes_no_more_than_it_is_offered}

pub taken-within : (m : Machine) (s : List ℕ) (l : Line) (f : Fed) (kept state out : List ℕ) → Replayed m s l f kept state out → f.taken ≤ length s
taken-within m s l f kept state out x =
    by-test (is_ready m)
    (λ p.
    let e : f.taken ≡ (fed_by m s l).taken = ap (λ (t : Taken). t.taken) x.taken ∙ rw p in
    rw e (a_call_takes_no_more_than_it_is_offered m s l))
    (λ p.
    let e : f.taken ≡ 0 = ap (λ (t : Taken). t.taken) x.taken ∙ rw p in
    omega arith)
