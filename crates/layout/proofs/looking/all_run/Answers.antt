-- `layout::looking::all_run` meets its contract. Assumes nothing.
use mathlib.Core.Path.{◌≡◌, ap, sym, ◌∙◌}
use mathlib.Core.List.{List}
use Prim.Native.Nat.{ℕ, ◌+◌, ◌*◌, ◌%◌, ◌≤◌}
use native.Mathlib.Nat.{zero-add}
use native.Mathlib.Omega.{arith}
use lib.ListN.{length}
use Rattle.receiver.specs.Channels.{places, side_of}
use Rattle.layout.specs.Octets.{le_at}
use Rattle.layout.specs.Layout.{kinds_from, state_length, kind_place}
use Rattle.layout.specs.Sweep.{timer_no}
use Rattle.layout.specs.Inner.{Running}
use Rattle.layout.proofs.Sweeps.{timer-same}
use Rattle.layout.proofs.NoneOut.{many, running_none, running_more, running-empty}
use Rattle.layout.proofs.looking.all_run.Goals as goal
use Rattle.layout.proofs.looking.all_run.Goals.{else-u64_at-ne0-via-then-u64_at-ne0+else-not-eight_run, else-u64_at-ne0-via-else-u64_at-ne0}
use Rattle.layout.proofs.looking.all_run.Goals.{else-u64_at-ne0-2-via-then-u64_at-ne0-2+else-not-eight_run-2, else-u64_at-ne0-2-via-else-u64_at-ne0-2}
use Rattle.layout.proofs.looking.all_run.Goals.{else-u64_at-ne0-3-via-then-u64_at-ne0-3+else-not-eight_run-3, else-u64_at-ne0-3-via-else-u64_at-ne0-3}

-- the timers of eight places, by those of the first places of their channels
timed : (l : List ℕ) (i s t u : ℕ) → length l ≡ state_length → i + 8 ≤ places → {ta tb tc : ℕ} → ta ≡ timer_no l s → tb ≡ timer_no l t → tc ≡ timer_no l u → side_of s ≡ side_of i
    → side_of t ≡ side_of (i + 1) → side_of u ≡ side_of (i + 2)
    → (length l ≡ state_length) × ((i + 8 ≤ places) × ((ta ≡ timer_no l i) × ((tb ≡ timer_no l (i + 1)) × (tc ≡ timer_no l (i + 2)))))
timed l i s t u m h p q r x y z = (m, (h, (p ∙ timer-same l s i x, (q ∙ timer-same l t (i + 1) y, r ∙ timer-same l u (i + 2) z))))

pub loop-g-init : goal.loop-g-init
loop-g-init c = (omega arith, running_none _ _ _)

pub eight_run-requires : goal.eight_run-requires
eight_run-requires c =
    timed c.args.b.now (24 * c.loop-g.g) 0 1 2 c.requires (omega arith) c.u32_at-t3206.ensures c.u32_at-t3208.ensures
    c.u32_at-t3210.ensures (omega arith) (omega arith) (omega arith)

pub eight_run-requires-then-u64_at-ne0-2 : goal.eight_run-requires-then-u64_at-ne0-2
eight_run-requires-then-u64_at-ne0-2 c =
    timed c.args.b.now (24 * c.loop-g.g + 8) 2 0 1 c.requires (omega arith) c.u32_at-t3210.ensures
    c.u32_at-t3206.ensures c.u32_at-t3208.ensures (omega arith) (omega arith) (omega arith)

pub eight_run-requires-then-u64_at-ne0-3 : goal.eight_run-requires-then-u64_at-ne0-3
eight_run-requires-then-u64_at-ne0-3 c =
    timed c.args.b.now (24 * c.loop-g.g + 16) 1 2 0 c.requires (omega arith) c.u32_at-t3208.ensures
    c.u32_at-t3210.ensures c.u32_at-t3206.ensures (omega arith) (omega arith) (omega arith)

pub loop-g-preserved : goal.loop-g-preserved
loop-g-preserved c =
    let at = 24 * c.loop-g.g in
    let now = c.args.tick in
    let b = c.args.b.now in
    let j = c.loop-g.j in
    let p : kinds_from + 8 * j ≡ kind_place at = omega (arith, c.loop-g.invariant.0) in
    let q : kinds_from + 8 * j + 8 ≡ kind_place (at + 8) = omega (arith, c.loop-g.invariant.0) in
    let r : kinds_from + 8 * j + 16 ≡ kind_place (at + 16) = omega (arith, c.loop-g.invariant.0) in
    let first : Running now b at 8 =
    elim c.else-u64_at-ne0.branch [
      | else-u64_at-ne0-via-then-u64_at-ne0+else-not-eight_run w ↦ w.eight_run.ensures w.if-not-eight_run.false
      | else-u64_at-ne0-via-else-u64_at-ne0 w ↦ running-empty now b at 8 (sym (ap (le_at 8 b) p) ∙ sym c.u64_at.ensures ∙ w.if-u64_at-ne0.false)
    ]
    in
    let second : Running now b (at + 8) 8 =
    elim c.else-u64_at-ne0-2.branch [
      | else-u64_at-ne0-2-via-then-u64_at-ne0-2+else-not-eight_run-2 w ↦ w.eight_run-then-u64_at-ne0-2.ensures w.if-not-eight_run-2.false
      | else-u64_at-ne0-2-via-else-u64_at-ne0-2 w ↦ running-empty now b (at + 8) 8 (sym (ap (le_at 8 b) q) ∙ sym c.u64_at-in-loop-g.ensures ∙ w.if-u64_at-ne0-2.false)
    ]
    in
    let third : Running now b (at + 16) 8 =
    elim c.else-u64_at-ne0-3.branch [
      | else-u64_at-ne0-3-via-then-u64_at-ne0-3+else-not-eight_run-3 w ↦ w.eight_run-then-u64_at-ne0-3.ensures w.if-not-eight_run-3.false
      | else-u64_at-ne0-3-via-else-u64_at-ne0-3 w ↦ running-empty now b (at + 16) 8 (sym (ap (le_at 8 b) r) ∙ sym c.u64_at-in-loop-g-2.ensures ∙ w.if-u64_at-ne0-3.false)
    ]
    in
    let turn : Running now b (0 + at) 24 = rw (zero-add at) (running_more now b at 16 8 (running_more now b at 8 8 first second) third) in
    let e : at + 24 ≡ 24 * (c.loop-g.g + 1) = omega arith in
    (omega (arith, c.loop-g.invariant.0), rw e at (running_more now b 0 at 24 c.loop-g.invariant.1 turn))

pub rest_run-requires : goal.rest_run-requires
rest_run-requires c =
    (c.requires, (c.u32_at-t3206.ensures, (c.u32_at-t3208.ensures, c.u32_at-t3210.ensures)))

pub returns : goal.returns
returns c =
    λ e.
    let a = c.args in
    let l = c.loop-g in
    let n : 24 * l.g ≡ many = omega arith in
    running_more a.tick a.b.now 0 many (places % 24) (rw n at l.invariant.1) (c.rest_run.ensures e)
