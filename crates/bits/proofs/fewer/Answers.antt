-- `bits::fewer` meets its contract. Assumes nothing.
use mathlib.Core.Path.{◌≡◌, refl, ap, ◌∙◌}
use Prim.Native.Nat.{ℕ, ◌+◌, ◌*◌}
use lib.ListN.{length}
use lib.Pow.{pow_mono}
use Rattle.bits.specs.Field.{field}
use Rattle.bits.proofs.Laws.{field_lt}
use Rattle.bits.proofs.Octets.{octet, join}
use native.Mathlib.Omega.{arith}
use Rattle.bits.proofs.fewer.Goals as goal

pub loop-i-init : goal.loop-i-init
unfolding field
loop-i-init c = (omega arith, refl)

pub loop-i-preserved : goal.loop-i-preserved
loop-i-preserved c =
    let s = c.args.s.now in
    let l = c.loop-i in
    let e : l.i * 8 + 8 ≡ (l.i + 1) * 8 = omega arith in (
      omega arith,
      join s 0 (l.i * 8) (l.i * 8) 8 l.v c.wide.result (omega arith) l.invariant.1
          (c.wide.ensures ∙ octet s l.i (omega (arith, c.type_inv.s l.i)))
          ∙ ap (field s 0) e,
    )

pub overflow_mul-v : goal.overflow_mul-v
overflow_mul-v c =
    let s = c.args.s.now in
    let i = c.loop-i.i in
    omega (arith, (loop-i-preserved c).1, field_lt s 0 ((i + 1) * 8), pow_mono {i = (i + 1) * 8} {j = 56} (omega arith))

pub overflow_add-v : goal.overflow_add-v
overflow_add-v c =
    let s = c.args.s.now in
    let i = c.loop-i.i in
    omega (arith, (loop-i-preserved c).1, field_lt s 0 ((i + 1) * 8), pow_mono {i = (i + 1) * 8} {j = 56} (omega arith))

pub returns : goal.returns
returns c =
    let s = c.args.s.now in
    let e : c.loop-i.i ≡ length s = omega arith in
    c.loop-i.invariant.1 ∙ ap (λ (x : ℕ). field s 0 (x * 8)) e
