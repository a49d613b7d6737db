-- Powers of a base, and how many digits hold a number. Assumes nothing.
use Prim.Native.Nat.{ℕ, ◌+◌, ◌-◌, ◌*◌, ◌^◌, ◌≤◌, ◌<◌, suc, max}
use native.Mathlib.Nat.{le_of_suc-le-suc, lt_of_not-le, pow-succ', one-le-pow, pow-le-pow_right}
use native.Mathlib.Omega.{arith}
use mathlib.Core.Path.{◌≡◌, sym, subst}
use mathlib.Core.List.{List}
use lib.ListN.{length}
use lib.Seq.{length-take-le}
use Rattle.text.specs.Inner.{IsDigitCount, IsPrefixLen}

-- the power that a number reaches, and the next one, tell how many digits it takes
pub digits_counted : (b n k least r : ℕ) → 1 < b → b ^ k ≤ n → n < b * b ^ k → r ≡ max least (k + 1) → IsDigitCount b least n r
digits_counted b n k least r h low high e =
    let q : n < b ^ suc k = rw pow-succ' high in
    let p : b ^ suc k ≤ b ^ r = pow-le-pow_right {n = b} (omega arith) {i = suc k} {j = r} (omega arith) in
    (omega arith, omega arith, λ more. let f : k ≡ r - 1 = omega arith in subst (λ (j : ℕ). b ^ j ≤ n) f low)

-- 0 takes as many as asked for, one at least
pub digits_of_zero : (b n least : ℕ) → 1 < b → 0 < least → n ≡ 0 → IsDigitCount b least n least
digits_of_zero b n least h some e = (omega arith, omega (arith, one-le-pow least b (omega arith)), λ more. absurd (omega arith))

digit_count_not_above : (b width n k most : ℕ) → 0 < b → IsDigitCount b width n k → width ≤ most → n < b ^ most → most < k → ⊥
digit_count_not_above b width n k most h fewest within holds over =
    let p : b ^ (k - 1) ≤ n = fewest.2 (omega arith) in
    let q : b ^ most ≤ b ^ (k - 1) = pow-le-pow_right h (omega arith) in
    omega arith

-- where `most` digits hold n, the fewest are no more
pub digit_count_le : (b width n k most : ℕ) → 0 < b → IsDigitCount b width n k → width ≤ most → n < b ^ most → k ≤ most
digit_count_le b width n k most h fewest within holds = le_of_suc-le-suc (lt_of_not-le (digit_count_not_above b width n k most h fewest within holds))

-- so many of the first octets are there
pub prefix : (n : ℕ) (xs : List ℕ) → n ≤ length xs → IsPrefixLen n xs
prefix n xs h = (h, sym (length-take-le n xs h))
