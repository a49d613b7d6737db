-- `gcc::digits::spelled_four` meets its contract. Assumes nothing.
use native.Mathlib.Omega.{arith}
use mathlib.Core.Path.{◌≡◌}
use Prim.Native.Nat.{ℕ, ◌+◌, ◌-◌, ◌*◌, ◌/◌, ◌%◌}
use Rattle.gcc.specs.Numeral.{spell}
use Rattle.gcc.proofs.digits.spelled_four.Goals as goal

pub returns : goal.returns
unfolding spell
returns c =
    let n : ℕ = c.args.n in
    let a : 48 + n / 1000 ≡ 48 + n / 1000 % 10 = omega arith in
    let b : 48 + n / 100 - 10 * (n / 1000) ≡ 48 + n / 100 % 10 = omega arith in
    let d : 48 + n / 10 - 10 * (n / 100) ≡ 48 + n / 10 % 10 = omega arith in
    let e : 48 + n % 10 ≡ 48 + n / 1 % 10 = omega arith in
    rw (a, b, d, e)
