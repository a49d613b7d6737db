-- What writers into words go by: bits behind bits, a part at a time, and what is stored of them. Assumes nothing.
use mathlib.Core.Path.{◌≡◌, refl, sym, ap, ap₂, ◌∙◌, subst}
use mathlib.Core.List.{List, [], ◌∷◌, ◌++◌}
use Prim.Native.Nat.{ℕ, zero, suc, ◌+◌, ◌-◌, ◌*◌, ◌/◌, ◌%◌, ◌^◌, ◌≤◌, ◌<◌}
use native.Mathlib.Nat.{add-mul, add_assoc, mul_assoc, mod-mod, mod-eq_of_lt}
use native.Mathlib.Omega.{arith}
use lib.Arith.{digits_lt}
use lib.ListN.{length, replicate, length-append}
use lib.Pow.{pow-add, pow_mono, mod-mod-pow, field as pow-field}
use borrow.Author.Tests.{le-leb}
use Rattle.csn1.specs.Format.{num_bits, total, row_bits, RowFits, put_bits}
use Rattle.csn1.proofs.Holding.{length-num_bits}
use Rattle.csn1.proofs.Writing.{num-join, glued, glued_lt, row-glued}
use Rattle.pen.specs.declared.Words.{Words}
use Rattle.pen.specs.Words.{whole, added, whole_after, stored_in, Adds}
use Rattle.pen.proofs.Numbers.{kept, after-few}

-- ## Bits behind bits

-- the same bits
pub adds_as : {x y : ℕ} {xs ys : List ℕ} → xs ≡ ys → Adds x y xs → Adds x y ys
adds_as {x} {y} e f = subst (λ (bs : List ℕ). Adds x y bs) e f

pub adds_none : {x : ℕ} → Adds x x []
unfolding num_bits
adds_none {x} =
    let e : x * 1 + 0 ≡ x = omega arith in
    record { number = 0; says = refl; below = omega arith; is = ap (λ (z : ℕ). z % 2 ^ 192) (sym e) }

-- y is x after `put`
pub adds-number : {x y : ℕ} (w v : ℕ) → y ≡ whole_after x w v → w ≤ 64 → v < 2 ^ w → Adds x y (num_bits w v)
unfolding added
adds-number {x} {y} w v e h f =
    let l : length (num_bits w v) ≡ w = length-num_bits w v in
    let a : y ≡ (x * 2 ^ w + v) % 2 ^ 192 = e ∙ after-few x w v h ∙ ap (λ (z : ℕ). (x * 2 ^ w + z) % 2 ^ 192) (mod-eq_of_lt f) in
    record {
      number = v;
      says = ap (λ (k : ℕ). num_bits k v) l;
      below = subst (λ (k : ℕ). v < 2 ^ k) (sym l) f;
      is = ap (λ (z : ℕ). z % 2 ^ 192) a ∙ mod-mod (x * 2 ^ w + v) (2 ^ 192) ∙ ap (λ (k : ℕ). (x * 2 ^ k + v) % 2 ^ 192) (sym l);
    }

pub adds-bit : {x y : ℕ} (v : ℕ) → y ≡ whole_after x 1 v → v < 2 → Adds x y (v ∷ [])
unfolding num_bits
adds-bit v e h = rw (mod-eq_of_lt h) at (adds-number 1 v e (omega arith) h)

-- numbers side by side, put as one
pub adds-row : {x y : ℕ} (ws l : List ℕ) (v : ℕ) → y ≡ whole_after x (total ws) v → v ≡ glued ws l → total ws ≤ 64 → RowFits ws l → Adds x y (row_bits ws l)
adds-row ws l v e g h f =
    adds_as (ap (num_bits (total ws)) g ∙ sym (row-glued ws l f)) (adds-number (total ws) v e h (subst (λ (k : ℕ). k < 2 ^ total ws) (sym g) (glued_lt ws l f)))

pub adds_then : {x y z : ℕ} {xs ys : List ℕ} → Adds x y xs → Adds y z ys → Adds x z (xs ++ ys)
adds_then {x} {y} {z} {xs} {ys} f g =
    let m : ℕ = f.number in
    let n : ℕ = g.number in
    let a : ℕ = length xs in
    let b : ℕ = length ys in
    let l : length (xs ++ ys) ≡ a + b = length-append xs ys in
    let e : (x * 2 ^ a + m) * 2 ^ b + n ≡ x * 2 ^ (a + b) + (m * 2 ^ b + n) =
    ap (λ (k : ℕ). k + n) (add-mul (x * 2 ^ a) m (2 ^ b)) ∙ ap (λ (k : ℕ). k + m * 2 ^ b + n) (mul_assoc x (2 ^ a) (2 ^ b) ∙ ap (λ (k : ℕ). x * k) (sym (pow-add 2 a b)))
    ∙ add_assoc (x * 2 ^ (a + b)) (m * 2 ^ b) n in
    record {
      number = m * 2 ^ b + n;
      says = ap (λ (k : ℕ). num_bits k (m * 2 ^ b + n)) l ∙ num-join a b m n g.below ∙ ap₂ ◌++◌ f.says g.says;
      below = subst (λ (k : ℕ). m * 2 ^ b + n < k) (sym (pow-add 2 a b) ∙ ap (λ (k : ℕ). 2 ^ k) (sym l)) (digits_lt f.below g.below);
      is =
          g.is ∙ sym (kept y (2 ^ b) n (2 ^ 192)) ∙ ap (λ (k : ℕ). (k * 2 ^ b + n) % 2 ^ 192) f.is ∙ kept (x * 2 ^ a + m) (2 ^ b) n (2 ^ 192)
          ∙ ap (λ (k : ℕ). k % 2 ^ 192) e ∙ ap (λ (k : ℕ). (x * 2 ^ k + (m * 2 ^ b + n)) % 2 ^ 192) (sym l);
    }

-- ## What is stored

-- no more than the low w bits of a number are looked at
bits-mod : (w j v : ℕ) → num_bits w (v % 2 ^ (j + w)) ≡ num_bits w v
unfolding num_bits
bits-mod zero j v = refl
bits-mod (suc w) j v =
    let e : j + suc w ≡ j + w + 1 = omega arith in
    let d : v % 2 ^ (j + suc w) / 2 ≡ v / 2 % 2 ^ (j + w) = ap (λ (k : ℕ). v % 2 ^ k / 2) e ∙ pow-field v (j + w) 1 in
    let m : v % 2 ^ (j + suc w) % 2 ≡ v % 2 = ap (λ (k : ℕ). v % 2 ^ k % 2) e ∙ mod-mod-pow v (j + w) 1 in
    ap₂ (λ (x y : ℕ). num_bits w x ++ (y ∷ [])) d m ∙ ap (λ (l : List ℕ). l ++ (v % 2 ∷ [])) (bits-mod w j (v / 2))

lt_le : (a b c : ℕ) → a < b → b ≤ c → a < c
lt_le a b c h l = omega arith

-- all bits of a form were written into words that held nothing
pub bits_are : (w : Words) (bs : List ℕ) → Adds 0 (whole w) bs → length bs ≤ 192 → num_bits (length bs) (whole w) ≡ bs
bits_are w bs f h =
    let n : ℕ = length bs in
    let e : 192 - n + n ≡ 192 = omega arith in
    let z : 0 * 2 ^ n + f.number ≡ f.number = omega arith in
    let l : f.number < 2 ^ 192 = lt_le f.number (2 ^ n) (2 ^ 192) f.below (pow_mono {i = n} {j = 192} h) in
    sym (bits-mod n (192 - n) (whole w)) ∙ ap (λ (k : ℕ). num_bits n (whole w % 2 ^ k)) e
    ∙ ap (num_bits n) (f.is ∙ ap (λ (k : ℕ). k % 2 ^ 192) z ∙ mod-eq_of_lt l)
    ∙ f.says

-- and they are stored over padding, as if each bit had been put there
pub stored-bits : (w : Words) (used : ℕ) (s bs : List ℕ) → Adds 0 (whole w) bs → used ≡ length bs → length s ≤ 23 → used ≤ length s * 8
    → stored_in w used s ≡ put_bits (replicate (length s) 43) 0 bs
unfolding stored_in
stored-bits w used s bs f e l h =
    rw (le-leb (length s) 23 l, le-leb used (length s * 8) h) (ap (put_bits (replicate (length s) 43) 0) (ap (λ (k : ℕ). num_bits k (whole w)) e ∙ bits_are w bs f (omega arith)))
