-- Flags, and what stands behind them: what writers ask is what the grammar asks, and each says the other. Assumes nothing.
use mathlib.Core.Path.{◌≡◌, refl, sym, ap}
use mathlib.Core.Bool.{Bool, true, false}
use mathlib.Core.Option.{Option, none, some}
use Prim.Native.Nat.{ℕ, ◌^◌, ◌<◌}
use native.Mathlib.Omega.{arith}
use borrow.Author.Tests.{ltb-true, eqb-true, not-true, lt-ltb}
use Rattle.csn1.specs.Format.{num, OptFits}
use Rattle.csn1.specs.Told.{is_there, or_zero, there, as_bit, or_false}
use Rattle.csn1.specs.Write.{flagged_right, behind}
use Rattle.csn1.proofs.Writing.{bit-back, flag-back, flag_lt}

-- ## A number

pub flag-fits : (h : Bool) (v w : ℕ) → flagged_right h v (2 ^ w) ≡ true → OptFits (num w) (there h v)
flag-fits true v w e = ltb-true v (2 ^ w) e
flag-fits false v w e = tt

pub fits-flag : (o : Option ℕ) (w : ℕ) → OptFits (num w) o → flagged_right (is_there o) (or_zero o) (2 ^ w) ≡ true
fits-flag none w f = refl
fits-flag (some v) w f = lt-ltb v (2 ^ w) f

pub flag-zero : (h : Bool) (v n : ℕ) → flagged_right h v n ≡ true → or_zero (there h v) ≡ v
flag-zero true v n e = refl
flag-zero false v n e = sym (eqb-true v 0 e)

-- a flag that is not set has 0 behind it
pub flag-none : (h : Bool) (v n : ℕ) → h ≡ false → flagged_right h v n ≡ true → 0 ≡ v
flag-none true v n o e = absurd (let z : ◌≡◌ {A = ℕ} 0 1 = cc in omega arith)
flag-none false v n o e = sym (eqb-true v 0 e)

pub flag_limit : (h : Bool) (v n : ℕ) → flagged_right h v n ≡ true → 0 < n → v < n
flag_limit true v n e k = ltb-true v n e
flag_limit false v n e k = omega (arith, eqb-true v 0 e)

-- ## A bit

pub bit-fits : (h b : Bool) → OptFits (num 1) (there h (as_bit b))
bit-fits true b = flag_lt b
bit-fits false b = tt

pub behind-none : (h b : Bool) → h ≡ false → behind h b ≡ true → b ≡ false
behind-none true b o e = absurd (let z : ◌≡◌ {A = ℕ} 0 1 = cc in omega arith)
behind-none false b o e = not-true b e

pub behind-bit : (h b : Bool) → behind h b ≡ true → or_false (there h (as_bit b)) ≡ b
behind-bit true b e = flag-back b
behind-bit false b e = sym (not-true b e)

pub bit-behind : (o : Option ℕ) → behind (is_there o) (or_false o) ≡ true
bit-behind none = refl
bit-behind (some b) = refl

pub bit-value : (o : Option ℕ) → OptFits (num 1) o → there (is_there o) (as_bit (or_false o)) ≡ o
bit-value none f = refl
bit-value (some b) f = ap some (bit-back b f)
