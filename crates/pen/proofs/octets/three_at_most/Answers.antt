-- `pen::octets::three_at_most` meets its contract. Assumes nothing.
use mathlib.Core.Path.{◌≡◌, refl, ap, ◌∙◌}
use Prim.Native.Nat.{ℕ, ◌+◌, ◌-◌, ◌/◌, ◌^◌}
use lib.Seq.{sets}
use Rattle.pen.specs.Inner.{digits}
use Rattle.pen.proofs.Digits.{set_twice}
use native.Mathlib.Omega.{arith}
use Rattle.pen.proofs.octets.three_at_most.Goals as goal

pub returns-then-n-lt2 : goal.returns-then-n-lt2
returns-then-n-lt2 c =
    c.one_at_most.ensures

pub returns : goal.returns
returns c =
    let a = c.args in
    let e : a.n - 2 + 2 ≡ a.n = omega arith in
    let s = a.octets.now in
    set_twice s c.one_at_most-2.new.octets c.two.new.octets 0 (a.n - 2) 2 (a.n - 2) a.v (a.v / 2 ^ 16) c.one_at_most-2.ensures c.two.ensures refl (omega arith)
    ∙ ap (λ (n : ℕ). sets s 0 (digits n a.v)) e
