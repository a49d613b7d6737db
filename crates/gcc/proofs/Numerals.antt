-- Numbers and their digits in any base: each gives the other back, and the steps of the loops that go from one to the other. Assumes nothing.
use mathlib.Core.Path.{◌≡◌, refl, sym, ap, ◌∙◌}
use mathlib.Core.Bool.{true}
use mathlib.Core.List.{List, [], ◌∷◌, ◌++◌, append_assoc}
use native.Mathlib.Omega.{arith}
use native.Mathlib.Nat.{pow-zero, pow-suc, pow-succ', div-one, div-div-eq-div-mul, mul_assoc, one-mul, add-mul, mul-le-mul_right}
use native.Mathlib.Nat.{mod-one, div-eq_of_lt-le, pow-le-pow_right, one-le-pow, mod-eq_of_lt, mod-lt, zero-mul, mul_comm, zero-add, suc-add}
use native.Mathlib.Numerals.{add-one}
use borrow.Author.Tests.{le-leb}
use Prim.Native.Nat.{ℕ, zero, suc, ◌+◌, ◌-◌, ◌*◌, ◌/◌, ◌%◌, ◌^◌, ◌≤◌, ◌<◌, zero-le, suc-le-suc}
use lib.ListN.{length, get_or, set, drop}
use lib.Seq.{drop-cons}
use lib.Arith.{digits_lt, digits_mod, mod-mul}
use lib.Pow.{pow-add}
use Rattle.gcc.specs.Octet.{all_between}
use Rattle.gcc.specs.Numeral.{spell, worth, Spells}
use Rattle.gcc.proofs.Lists.{drop-set-here, within-each}

pow_pos : (b k : ℕ) → 0 < b → 0 < b ^ k
pow_pos b k h = one-le-pow k b h

-- the last digit apart
pub spell_last : (b z k n : ℕ) → spell b z (suc k) n ≡ spell b z k (n / b) ++ ((z + n % b) ∷ [])
unfolding spell
spell_last b z zero n = rw (pow-zero, div-one)
spell_last b z (suc k) n = rw (pow-succ', ← div-div-eq-div-mul n b (b ^ k), spell_last b z k n)

-- digits of n, read behind those of a, give n behind a
pub worth-spell : (b z a k n : ℕ) → 0 < b → worth b z a (spell b z k n) ≡ a * b ^ k + n % b ^ k
unfolding spell worth
worth-spell b z a zero n h = rw (pow-zero, mod-one) (omega arith)
worth-spell b z a (suc k) n h =
    let q : ℕ = n / b ^ k % b in
    let d : z + q - z ≡ q = omega arith in
    let m : n % (b * b ^ k) ≡ q * b ^ k + n % b ^ k = mod-mul n h (pow_pos b k h) in
    let e : worth b z (a * b + (z + q - z)) (spell b z k n) ≡ (a * b + q) * b ^ k + n % b ^ k =
    ap (λ t. worth b z (a * b + t) (spell b z k n)) d ∙ worth-spell b z (a * b + q) k n h in
    e ∙ rw (pow-succ', m, add-mul, mul_assoc) (omega arith)

-- the digits behind a leave its place
worth-between : (b z a : ℕ) (l : List ℕ) → Spells b z l → (a * b ^ length l ≤ worth b z a l) × (worth b z a l < (a + 1) * b ^ length l)
unfolding worth
worth-between b z a [] s = rw pow-zero (omega arith)
worth-between b z a (d ∷ l) s =
    let p : ℕ = b ^ length l in
    let i = worth-between b z (a * b + (d - z)) l (λ i h. s (suc i) (suc-le-suc h)) in
    let x : a * b ^ suc (length l) ≡ a * b * p = rw (pow-succ', mul_assoc) in
    let y : (a + 1) * b ^ suc (length l) ≡ (a + 1) * b * p = rw (pow-succ', mul_assoc) in
    let lo : a * b * p ≤ (a * b + (d - z)) * p = mul-le-mul_right p (omega arith) in
    let g = s 0 (suc-le-suc zero-le) in
    let hi : (a * b + (d - z) + 1) * p ≤ (a + 1) * b * p = mul-le-mul_right p (rw (add-mul, one-mul) (omega arith)) in
    (omega arith, omega arith)

-- a number's digits are those it was read from
pub spell-worth : (b z a : ℕ) (l : List ℕ) → Spells b z l → spell b z (length l) (worth b z a l) ≡ l
unfolding spell worth
spell-worth b z a [] s = refl
spell-worth b z a (d ∷ l) s =
    let e : ℕ = a * b + (d - z) in
    let t : Spells b z l = λ i h. s (suc i) (suc-le-suc h) in
    let g = s 0 (suc-le-suc zero-le) in
    let w = worth-between b z e l t in
    let q : worth b z e l / b ^ length l ≡ e = div-eq_of_lt-le (b ^ length l) w.0 w.1 in
    let m : e % b ≡ d - z = digits_mod a (omega arith) in
    let h : z + worth b z e l / b ^ length l % b ≡ d = rw (q, m) (omega arith) in
    rw (h, spell-worth b z e l t)

-- n has its digits, k of them
pub worth-of-spell : (b z k n : ℕ) → 0 < b → n < b ^ k → worth b z 0 (spell b z k n) ≡ n
worth-of-spell b z k n h l = worth-spell b z 0 k n h ∙ rw (mod-eq_of_lt l, zero-mul) (omega arith)

-- k digits have a number below b ^ k
pub worth_lt : (b z : ℕ) (l : List ℕ) → Spells b z l → worth b z 0 l < b ^ length l
worth_lt b z l s = let w = worth-between b z 0 l s in omega (arith, rw one-mul at w.1)

pub length-spell : (b z k n : ℕ) → length (spell b z k n) ≡ k
unfolding spell
length-spell b z zero n = refl
length-spell b z (suc k) n = ap suc (length-spell b z k n)

pub spell-within : (b z k n : ℕ) → 0 < b → all_between z (z + (b - 1)) (spell b z k n) ≡ true
unfolding spell all_between
spell-within b z zero n h = refl
spell-within b z (suc k) n h =
    let d : ℕ = n / b ^ k % b in
    let l : d < b = mod-lt (n / b ^ k) h in
    rw (le-leb z (z + d) (omega arith), le-leb (z + d) (z + (b - 1)) (omega arith)) (spell-within b z k n h)

-- digits within the range are digits
pub within-spells : (b z : ℕ) (l : List ℕ) → 0 < b → all_between z (z + (b - 1)) l ≡ true → Spells b z l
within-spells b z l h w i k = let d = within-each z (z + (b - 1)) l w i k in (d.0, omega arith)

-- what lies above k digits does not change them
spell-low : (b z k n : ℕ) → 0 < b → spell b z k n ≡ spell b z k (n % b ^ k)
spell-low b z k n h =
    let l : List ℕ = spell b z k n in
    let e : spell b z k (worth b z 0 l) ≡ l = rw (length-spell b z k n) at (spell-worth b z 0 l (within-spells b z l h (spell-within b z k n h))) in
    let w : worth b z 0 l ≡ n % b ^ k = worth-spell b z 0 k n h ∙ rw zero-mul (omega arith) in
    sym (ap (λ t. spell b z k t) (sym w) ∙ e)

-- the first digits, and the last k
pub spell-parts : (b z j k n : ℕ) → 0 < b → spell b z (j + k) n ≡ spell b z j (n / b ^ k) ++ spell b z k (n % b ^ k)
unfolding spell
spell-parts b z zero k n h = rw zero-add (spell-low b z k n h)
spell-parts b z (suc j) k n h =
    let e : b ^ (j + k) ≡ b ^ k * b ^ j = pow-add b j k ∙ mul_comm (b ^ j) (b ^ k) in
    rw (suc-add, e, div-div-eq-div-mul n (b ^ k) (b ^ j), spell-parts b z j k n h)

-- ## Steps of the loops

-- one digit more is read
pub worth_turn : (b z n i : ℕ) (s : List ℕ) → i < length s → worth b z n (drop i s) ≡ worth b z (n * b + (get_or s i 0 - z)) (drop (i + 1) s)
unfolding worth
worth_turn b z n i s h = rw (add-one, drop-cons s i 0)

-- and the number does not outgrow that of all digits
pub worth-fits : (b z n i : ℕ) (s : List ℕ) → Spells b z s → i < length s → n < b ^ i
    → (n * b + (get_or s i 0 - z) < b ^ (i + 1)) × (b ^ (i + 1) ≤ b ^ length s)
worth-fits b z n i s g h l =
    let d = g i h in
    (rw (add-one, pow-suc) (digits_lt l (omega arith)), pow-le-pow_right {n = b} (omega arith) (omega arith))

-- one digit more is written, the last of those that are left
pub spell_turn : (b z i n v : ℕ) (buf : List ℕ) → 0 < i → i ≤ length buf → v ≡ z + n % b
    → spell b z i n ++ drop i buf ≡ spell b z (i - 1) (n / b) ++ drop (i - 1) (set buf (i - 1) v)
spell_turn b z zero n v buf p h e = absurd (omega arith)
spell_turn b z (suc j) n v buf p h e =
    let one : suc j - 1 ≡ j = omega arith in
    let d : drop j (set buf j v) ≡ v ∷ drop (suc j) buf = drop-set-here buf j v h in
    rw (spell_last b z j n, one, d, e, append_assoc)
