-- `lent::tell::tell_nch` meets its contract. Assumes nothing.
use mathlib.Core.Path.{◌≡◌}
use mathlib.Core.List.{List}
use Prim.Native.Nat.{ℕ, ◌+◌}
use native.Mathlib.Omega.{arith}
use lib.Dec.{leb}
use lib.ListN.{get_or}
use Rattle.csn1.proofs.Writing.{byte_lt}
use Rattle.nch.specs.declared.Notification.{Notification}
use Rattle.receiver.specs.declared.Cell.{Cell}
use Rattle.nch.specs.NotificationNumbers.{record_from}
use Rattle.lent.proofs.Tellings.{all-length}
use Rattle.lent.proofs.Messages.{ToldTo, none_told, all_told}
use Rattle.lent.proofs.FromNumbers.{call_at, entries_are, call_asks, call_next, turn_call, reduced-asks, turn_reduced}
use Rattle.lent.proofs.tell.tell_nch.Goals as goal

-- what is told of i entries, by another name of i
calls_all : (l : List ℕ) (cell : Cell) (now : ℕ) (r : Notification) (random mark i n : ℕ) (left : List ℕ) → i ≡ n → ToldTo l cell now r random mark i left → ToldTo l cell now r random mark n left
calls_all l cell now r random mark i n left e p = rw e at p

pub calls-init : goal.calls-init
calls-init c = none_told _ _ _ _

pub tell_numbers-requires : goal.tell_numbers-requires
tell_numbers-requires c =
    let a = c.args in
    let l = c.calls in
    call_asks a.m.now c.requires.1 a.b.now a.cell a.tick l.random l.mark l.i l.b l.invariant _ c.min-n.ensures c.calls-test.true c.requires.0

pub overflow_cast-random : goal.overflow_cast-random
overflow_cast-random c = tt

pub overflow_add-random-in-calls : goal.overflow_add-random-in-calls
overflow_add-random-in-calls c =
    let a = c.args in
    let l = c.calls in
    let f = call_next a.m.now c.requires.1 a.b.now a.cell a.tick l.random l.mark l.i l.b l.invariant _ c.min-n.ensures c.calls-test.true in
    omega (arith, f, byte_lt (leb 1 (get_or a.m.now (call_at l.i + 4) 0)))

pub overflow_add-mark-in-calls : goal.overflow_add-mark-in-calls
overflow_add-mark-in-calls c =
    let a = c.args in
    let l = c.calls in
    let f = call_next a.m.now c.requires.1 a.b.now a.cell a.tick l.random l.mark l.i l.b l.invariant _ c.min-n.ensures c.calls-test.true in
    omega (arith, f)

pub calls-preserved : goal.calls-preserved
calls-preserved c =
    let a = c.args in
    let l = c.calls in
    let told = c.tell_numbers.ensures in
    let t = turn_call a.m.now c.requires.1 a.b.now a.cell a.tick l.random l.mark l.i l.b l.invariant _ c.min-n.ensures c.calls-test.true _ told in
    t

pub reduceds-init : goal.reduceds-init
reduceds-init c = λ l p. p

pub overflow_sub-i : goal.overflow_sub-i
overflow_sub-i c = omega arith

pub tell_numbers-requires-in-reduceds : goal.tell_numbers-requires-in-reduceds
tell_numbers-requires-in-reduceds c =
    let a = c.args in
    let r = c.reduceds in
    let p = r.invariant a.b.now (calls_all _ _ _ _ _ _ _ _ _ (omega arith) c.calls.invariant) in
    reduced-asks a.m.now c.requires.1 a.b.now a.cell a.tick r.random _ r.i r.b p _ c.min-n.ensures (omega arith) (omega (arith, c.min.ensures)) c.requires.0

pub overflow_add-random-in-reduceds : goal.overflow_add-random-in-reduceds
overflow_add-random-in-reduceds c =
    let a = c.args in
    let r = c.reduceds in
    let p = r.invariant a.b.now (calls_all _ _ _ _ _ _ _ _ _ (omega arith) c.calls.invariant) in
    let few = c.min-n.ensures in
    let f = reduced-asks a.m.now c.requires.1 a.b.now a.cell a.tick r.random _ r.i r.b p _ few (omega arith) (omega (arith, c.min.ensures)) c.requires.0 in
    omega (arith, f.1.1.1.0)

pub reduceds-preserved : goal.reduceds-preserved
reduceds-preserved c =
    let a = c.args in
    let r = c.reduceds in
    λ l p.
    turn_reduced a.m.now c.requires.1 l a.cell a.tick r.random _ r.i r.b (r.invariant l p) _ c.min-n.ensures (omega arith)
    (omega (arith, c.min.ensures)) _ c.tell_numbers-in-reduceds.ensures

pub overflow_cast-result : goal.overflow_cast-result
overflow_cast-result c = omega (arith, c.min-n.ensures, c.min.ensures)

pub shape_of-b : goal.shape_of-b
shape_of-b c =
    let p = c.reduceds.invariant c.args.b.now (calls_all _ _ _ _ _ _ _ _ _ (omega arith) c.calls.invariant) in
    all-length _ _ _ _ _ _ p.told

pub returns : goal.returns
returns c =
    let a = c.args in
    let r = c.reduceds in
    let e = entries_are a.m.now _ c.min-n.ensures in
    let d = c.min.ensures in
    let p = r.invariant a.b.now (calls_all _ _ _ _ _ _ _ _ _ (omega arith) c.calls.invariant) in
    (omega (arith, e, d), all_told a.b.now a.cell a.tick (record_from a.m.now) r.random _ r.i r.b p (omega (arith, e, d)))
