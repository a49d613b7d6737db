-- `pen::octets::seven_at_most` meets its contract. Assumes nothing.
use mathlib.Core.Path.{◌≡◌, refl, ap, ◌∙◌}
use Prim.Native.Nat.{ℕ, ◌+◌, ◌-◌, ◌/◌, ◌^◌}
use lib.Seq.{sets}
use Rattle.pen.specs.Inner.{digits}
use Rattle.pen.proofs.Digits.{set_twice}
use native.Mathlib.Omega.{arith}
use Rattle.pen.proofs.octets.seven_at_most.Goals as goal

pub returns-then-n-lt4 : goal.returns-then-n-lt4
returns-then-n-lt4 c =
    c.three_at_most.ensures

pub returns : goal.returns
returns c =
    let a = c.args in
    let e : a.n - 4 + 4 ≡ a.n = omega arith in
    let s = a.octets.now in
    set_twice s c.three_at_most-2.new.octets c.four.new.octets 0 (a.n - 4) 4 (a.n - 4) a.v (a.v / 2 ^ 32) c.three_at_most-2.ensures c.four.ensures refl (omega arith)
    ∙ ap (λ (n : ℕ). sets s 0 (digits n a.v)) e
