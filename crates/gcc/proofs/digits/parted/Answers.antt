-- `gcc::digits::parted` meets its contract. Assumes nothing.
use native.Mathlib.Omega.{arith}
use mathlib.Core.Path.{◌≡◌, sym, ap, ◌∙◌}
use Prim.Native.Nat.{ℕ, ◌+◌, ◌-◌, ◌*◌, ◌/◌, ◌%◌, ◌<◌}
use lib.Arith.{digits_div, digits_mod}
use Rattle.gcc.proofs.digits.parted.Goals as goal

pub returns : goal.returns
returns c =
    let n : ℕ = c.args.n in
    let l : ℕ = n / 256 % 390625 * 256 + (n - n / 256 * 256) in
    let q : ℕ = n / 256 / 390625 in
    let e : n ≡ q * 100000000 + l = omega arith in
    let r : l < 100000000 = omega arith in
    let m : l ≡ n % 100000000 = sym (ap (λ t. t % 100000000) e ∙ digits_mod q r) in
    (sym (ap (λ t. t / 100000000) e ∙ digits_div q r), ap (λ t. t / 10000) m, ap (λ t. t % 10000) m)
