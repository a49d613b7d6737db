-- `layout::places::place_in` meets its contract. Assumes nothing.
use mathlib.Core.Path.{◌≡◌, refl, sym, ap, ◌∙◌}
use mathlib.Core.Logic.{inl, inr}
use mathlib.Core.List.{List}
use Prim.Native.Nat.{ℕ, ◌≤◌, ◌<◌}
use native.Mathlib.Omega.{arith}
use lib.ListN.{length, get_or}
use Rattle.receiver.specs.Channels.{key_count}
use Rattle.layout.specs.Layout.{key_no, keys_in}
use Rattle.layout.proofs.Finding.{Halfway, half_begin, half-within, half-middle, half_step, half-found, half-none, few_keys, key_in}
use Rattle.layout.proofs.places.place_in.Goals as goal
use Rattle.layout.proofs.places.place_in.Goals.{else-start-n-via-then-start-n+else-u32_at-key, else-start-n-via-else-start-n, then-here-key, else-here-key, then-here-key-2, else-here-key-2, then-here-key-3, else-here-key-3}

bounded : (l : List ℕ) (key start end most : ℕ) → Halfway (keys_in l) key start end most → (start ≤ key_count) × ((end ≤ key_count) × Halfway (keys_in l) key start end most)
bounded l key start end most h = let w = half-within h in (omega (arith, w, few_keys l), (omega (arith, w, few_keys l), h))

-- the key that was read
read : (l : List ℕ) (i at k : ℕ) → i < length (keys_in l) → at ≡ i → k ≡ key_no l at → k ≡ get_or (keys_in l) i 0
read l i at k h e q = q ∙ ap (key_no l) e ∙ sym (key_in l i h)

pub loop-most-init : goal.loop-most-init
loop-most-init c =
    let a = c.args in
    bounded a.b.now a.key 0 _ _ (rw c.key_count-n.ensures (half_begin (keys_in a.b.now) a.key))

pub loop-most-preserved : goal.loop-most-preserved
loop-most-preserved c =
    let l = c.loop-most in
    let a = c.args in
    let h = c.loop-most-test.true in
    bounded a.b.now a.key _ _ _
    (half_step l.invariant.1.1 h c.u32_at-here.result c.if-here-key.same c.if-here-key-2.end c.if-here-key-3.start
    (read a.b.now _ _ _ (half-middle l.invariant.1.1 h) refl c.u32_at-here.ensures)
    (elim c.if-here-key.branch [ then-here-key w ↦ inl (w.if-here-key.true, w.same-is) | else-here-key w ↦ inr (w.if-here-key.false, w.same-is) ])
    (elim c.if-here-key-2.branch [ then-here-key-2 w ↦ inl (w.if-here-key-2.true, w.end-is) | else-here-key-2 w ↦ inr (w.if-here-key-2.false, w.end-is) ])
    (elim c.if-here-key-3.branch [ then-here-key-3 w ↦ inl (w.if-here-key-3.true, w.start-is) | else-here-key-3 w ↦ inr (w.if-here-key-3.false, w.start-is) ]))

pub returns-then-u32_at-key : goal.returns-then-u32_at-key
returns-then-u32_at-key c =
    let l = c.loop-most in
    let h : l.start < length (keys_in c.args.b.now) = omega (arith, c.key_count-n.ensures) in
    half-found l.invariant.1.1 c.loop-most-test.false h
    (sym (read c.args.b.now _ _ _ h refl c.u32_at.ensures) ∙ c.if-u32_at-key.true)

pub returns-else-start-n : goal.returns-else-start-n
returns-else-start-n c =
    let l = c.loop-most in
    half-none l.invariant.1.1 c.loop-most-test.false
    (λ h e. elim c.else-start-n.branch [
      | else-start-n-via-then-start-n+else-u32_at-key w ↦ w.if-u32_at-key.false (read c.args.b.now _ _ _ h refl w.u32_at.ensures ∙ e)
      | else-start-n-via-else-start-n w ↦ absurd (omega (arith, c.key_count-n.ensures))
    ])
