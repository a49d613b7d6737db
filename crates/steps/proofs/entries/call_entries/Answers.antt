-- `steps::entries::call_entries` meets its contract. Assumes nothing.
use mathlib.Core.Path.{◌≡◌, sym, ◌∙◌}
use Prim.Native.Nat.{◌<◌, min}
use native.Mathlib.Omega.{arith}
use lib.ListN.{get_or, take}
use lib.Seq.{get_or-take}
use Rattle.call.specs.Call.{ciphered, no_call}
use Rattle.nch.specs.Write.{is_described}
use Rattle.csn1.proofs.Writing.{flag_lt}
use Rattle.receiver.proofs.MessageEntries.{calls-more}
use Rattle.steps.proofs.EntriesMade.{calls_begin, few-made, calls-end}
use Rattle.steps.proofs.entries.call_entries.Goals as goal

pub loop-i-init : goal.loop-i-init
loop-i-init c = calls_begin _ _ (rw c.no_record-items.ensures)

pub overflow_add-random : goal.overflow_add-random
overflow_add-random c =
    let l = c.loop-i in
    let x = c.args.m in
    omega (arith, few-made x l.items l.random l.mark l.i l.invariant, c.from-random.ensures, flag_lt (ciphered (get_or (take c.min-count.result x.calls) l.i no_call)))

pub overflow_add-mark : goal.overflow_add-mark
overflow_add-mark c =
    let l = c.loop-i in
    let x = c.args.m in
    omega (arith, few-made x l.items l.random l.mark l.i l.invariant, c.from-mark.ensures, flag_lt (is_described (get_or (take c.min-count.result x.calls) l.i no_call)))

pub loop-i-preserved : goal.loop-i-preserved
loop-i-preserved c =
    let l = c.loop-i in
    let m = c.args.m in
    let h : l.i < min m.callcount 4 = omega (arith, c.min-count.ensures) in
    let g = get_or-take c.min-count.result m.calls l.i no_call (omega arith) in
    calls-more m l.items l.random l.mark l.i l.invariant (omega arith) h _ _ _ (rw g at c.call_entry.ensures) (rw g at c.from-random.ensures)
    (rw g at c.from-mark.ensures)

pub returns : goal.returns
returns c =
    let l = c.loop-i in
    let e : l.i ≡ c.min-count.result = omega arith in
    let r = calls-end c.args.m l.items l.random l.mark l.i l.invariant (omega arith) (e ∙ c.min-count.ensures) in
    (r.0, (sym e ∙ r.1.0, r.1.1))
