-- A call of `feed` takes no more than it is offered. Assumes nothing.
use mathlib.Core.Path.{◌≡◌, ap, ◌∙◌}
use mathlib.Core.List.{List}
use native.Mathlib.Omega.{arith}
use Prim.Native.Nat.{ℕ, ◌≤◌}
use lib.ListN.{length}
use Rattle.receiver.proofs.Cases.{by-test}
use Rattle.capture.specs.declared.Mended.{Mended}
use Rattle.capture.specs.Machine.{is_ready}
use Rattle.capture.specs.Mending.{Mending, Lines, MendTaken, mended_by, MendFed}
use Rattle.capture.proofs.Promises.{a_mending_call_takes_no_more_than_it_is_offered}

pub taken-within : (m : Mending) (s : List ℕ) (l : Lines) (f : Mended) (kept state copy list : List ℕ) → MendFed m s l f kept state copy list → f.taken ≤ length s
taken-within m s l f kept state copy list x =
    by-test (is_ready m.machine)
    (λ p.
    let e : f.taken ≡ (mended_by m s l).taken = ap (λ (t : MendTaken). t.taken) x.taken ∙ rw p in
    rw e (a_mending_call_takes_no_more_than_it_is_offered m s l))
    (λ p.
    let e : f.taken ≡ 0 = ap (λ (t : MendTaken). t.taken) x.taken ∙ rw p in
    omega arith)
