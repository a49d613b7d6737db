-- `steps::entries::nch_entries` meets its contract. Assumes nothing.
use lib.Seq.{get_or-take}
use Rattle.nch.specs.Told.{no_reduced}
use Prim.Native.Nat.{ℕ, ◌≤◌, ◌<◌, min}
use mathlib.Core.Path.{◌≡◌, ◌∙◌}
use lib.ListN.{length}
use Rattle.call.specs.Call.{ciphered}
use Rattle.nch.specs.declared.Notification.{Notification}
use Rattle.nch.specs.Octets.{count}
use Rattle.nch.specs.Write.{calls_of}
use native.Mathlib.Omega.{arith}
use Rattle.steps.proofs.EntriesMade.{few-calls, reduceds_begin, reduceds_more, reduceds_end}
use Rattle.steps.proofs.entries.nch_entries.Goals as goal

pub loop-j-init : goal.loop-j-init
loop-j-init c = c.call_entries-calls.ensures.0 ∙ reduceds_begin c.args.m

-- at most four calls, of which at most four are ciphered
few : (m : Notification) (n k : ℕ) → length m.calls ≡ 4 → n ≡ length (calls_of m) → k ≡ count ciphered (calls_of m) → (n ≤ 4) × (k ≤ 4)
few m n k four e f = rw (e, f) (few-calls m four)

pub overflow_add-calls : goal.overflow_add-calls
overflow_add-calls c = let e = c.call_entries-calls.ensures.1 in omega (arith, few c.args.m _ _ (omega arith) e.0 e.1, c.min-count.ensures)

pub overflow_add-items : goal.overflow_add-items
overflow_add-items c = let e = c.call_entries-calls.ensures.1 in omega (arith, few c.args.m _ _ (omega arith) e.0 e.1, c.min-count.ensures)

pub offset_bounds-items-first : goal.offset_bounds-items-first
offset_bounds-items-first c = let e = c.call_entries-calls.ensures.1 in omega (arith, few c.args.m _ _ (omega arith) e.0 e.1, c.min-count.ensures)

pub bounds-items-first : goal.bounds-items-first
bounds-items-first c = let e = c.call_entries-calls.ensures.1 in omega (arith, few c.args.m _ _ (omega arith) e.0 e.1, c.min-count.ensures)

pub overflow_add-result : goal.overflow_add-result
overflow_add-result c = let e = c.call_entries-calls.ensures.1 in omega (arith, few c.args.m _ _ (omega arith) e.0 e.1, c.min-count.ensures)

pub loop-j-preserved : goal.loop-j-preserved
loop-j-preserved c =
    let l = c.loop-j in
    let made = c.call_entries-calls in
    let h : l.j < min c.args.m.release6.reducedcount 5 = omega (arith, c.min-count.ensures) in
    let g = get_or-take c.min-count.result c.args.m.release6.reduced l.j no_reduced (omega arith) in
    reduceds_more c.args.m (omega arith) (omega arith) made.result.count made.ensures.1.0 l.items l.j l.invariant h made.result.ciphered made.ensures.1.1 _
    (rw g at c.reduced_entry.ensures)

pub returns : goal.returns
returns c =
    let l = c.loop-j in
    let made = c.call_entries-calls in
    reduceds_end c.args.m (omega arith) (omega arith) made.result.count made.ensures.1.0 l.items l.j l.invariant c.min-count.result (omega arith) (omega (arith, c.min-count.ensures))
