-- `gcc::digits::spelled` meets its contract. Assumes nothing.
use native.Mathlib.Omega.{arith}
use mathlib.Core.Path.{◌≡◌, sym}
use mathlib.Core.List.{List, ◌++◌}
use Prim.Native.Nat.{ℕ, ◌/◌, ◌%◌, ◌^◌}
use Rattle.gcc.specs.Inner.{four_of}
use Rattle.gcc.specs.Numeral.{spell}
use Rattle.gcc.proofs.Numerals.{spell-parts}
use Rattle.gcc.proofs.digits.spelled.Goals as goal

-- twelve digits are three times four
thrice : (n : ℕ) (a b c : List ℕ) → a ≡ spell 10 48 4 (n / 10 ^ 8) → b ≡ spell 10 48 4 (n % 10 ^ 8 / 10 ^ 4) → c ≡ spell 10 48 4 (n % 10 ^ 8 % 10 ^ 4)
    → a ++ (b ++ c) ≡ spell 10 48 12 n
thrice n a b c e f g = rw (e, f, g, ← spell-parts 10 48 4 4 (n % 10 ^ 8) (omega arith)) (sym (spell-parts 10 48 4 8 n (omega arith)))

pub returns : goal.returns
returns c =
    let p = c.parted-p.ensures in
    let a = c.spelled_four-a in
    let b = c.spelled_four-b in
    let d = c.spelled_four-c in
    thrice _ (four_of a.result) (four_of b.result) (four_of d.result) (rw p.0 at a.ensures) (rw p.1 at b.ensures) (rw p.2 at d.ensures)
