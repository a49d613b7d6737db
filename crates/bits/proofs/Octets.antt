-- The laws of fields that are read and put by octets. Assumes nothing.
use mathlib.Core.Path.{◌≡◌, refl, sym, ap, ap₂, ◌∙◌, subst}
use mathlib.Core.List.{List}
use Prim.Native.Nat.{ℕ, zero, suc, ◌+◌, ◌-◌, ◌*◌, ◌/◌, ◌%◌, ◌^◌, ◌≤◌, ◌<◌}
use native.Mathlib.Nat.{add-zero, add-suc, add_comm, add_assoc, mul_assoc, mod-lt, pow-suc, div-one, div-eq_of_lt, one-mul, zero-mul, mod-eq_of_lt}
use native.Mathlib.Numerals.{add-one, one-add}
use native.Mathlib.Omega.{arith}
use lib.Arith.{digits_lt}
use lib.ListN.{length, get_or, set}
use lib.Seq.{get_or-set_same, set-get_or, set-set}
use lib.Pow.{shr_lt, shr_le, pow_pos, pow-add, shl-shr, high, low, split, shr-shr, mod-mod-pow, mod-pow-add, shl_exact, shl_lt, pow_mono, field as pow-field}
use Rattle.bits.specs.Field.{bit, field, with_bit, set_bit, set_field}
use Rattle.bits.proofs.Laws.{field_lt, field-split}

-- ## Reading

-- one bit more of a number, from its top
halves : (o n : ℕ) → o / 2 ^ (n + 1) * 2 + o / 2 ^ n % 2 ≡ o / 2 ^ n
halves o n = rw (← shr-shr o n 1) (omega arith)

-- the first k bits of an octet are its number without the other 8 - k
octet-field : (s : List ℕ) (i k : ℕ) → k ≤ 8 → get_or s i 0 < 256 → field s (i * 8) k ≡ get_or s i 0 / 2 ^ (8 - k)
unfolding field bit
octet-field s i zero h l = omega arith
octet-field s i (suc k) h l =
    let p : (i * 8 + k) / 8 ≡ i = omega arith in
    let q : 7 - (i * 8 + k) % 8 ≡ 8 - suc k = omega arith in
    let m : 8 - k ≡ 8 - suc k + 1 = omega arith in
    let e : field s (i * 8) k ≡ get_or s i 0 / 2 ^ (8 - suc k + 1) = octet-field s i k (omega arith) l ∙ ap (λ (x : ℕ). get_or s i 0 / 2 ^ x) m in
    ap₂ (λ (x y : ℕ). x * 2 + y) e (ap₂ (λ (x y : ℕ). get_or s x 0 / 2 ^ y % 2) p q) ∙ halves (get_or s i 0) (8 - suc k)

-- an octet is a field of eight bits
pub octet : (s : List ℕ) (i : ℕ) → get_or s i 0 < 256 → get_or s i 0 ≡ field s (i * 8) 8
octet s i h = sym (octet-field s i 8 (omega arith) h ∙ div-one (get_or s i 0))

-- two fields, one after the other, are one
pub join : (s : List ℕ) (at p n m a b : ℕ) → p ≡ at + n → a ≡ field s at n → b ≡ field s p m → b + a * 2 ^ m ≡ field s at (n + m)
join s at p n m a b e f g =
    ap₂ (λ (x y : ℕ). y + x * 2 ^ m) f (g ∙ ap (λ (x : ℕ). field s x m) e)
    ∙ add_comm (field s (at + n) m) (field s at n * 2 ^ m)
    ∙ sym (field-split s at n m)

-- the last w bits of a field, by the numbers alone
field-low : (s : List ℕ) (b p w : ℕ) → field s b (p + w) % 2 ^ w ≡ field s (b + p) w
field-low s b p w = ap (λ (x : ℕ). x % 2 ^ w) (field-split s b p w) ∙ low (field s b p) w (field_lt s (b + p) w)

-- a field inside a field
field-part : (s : List ℕ) (b p w r : ℕ) → field s b (p + w + r) / 2 ^ r % 2 ^ w ≡ field s (b + p) w
field-part s b p w r =
    ap (λ (x : ℕ). x / 2 ^ r % 2 ^ w) (field-split s b (p + w) r)
    ∙ ap (λ (x : ℕ). x % 2 ^ w) (high (field s b (p + w)) r (field_lt s (b + (p + w)) r))
    ∙ field-low s b p w

-- shifted up by m until only w + r bits are left, and down again but r more
shifts : (v m w r : ℕ) → v * 2 ^ m % 2 ^ (w + r + m) / 2 ^ (m + r) ≡ v / 2 ^ r % 2 ^ w
shifts v m w r =
    sym (shr-shr (v * 2 ^ m % 2 ^ (w + r + m)) m r)
    ∙ ap (λ (x : ℕ). x / 2 ^ r) (pow-field (v * 2 ^ m) (w + r) m ∙ ap (λ (x : ℕ). x % 2 ^ (w + r)) (shl-shr v m))
    ∙ pow-field v w r

-- what is shifted up in a number of j + k bits keeps its j low bits
shl-mod : (v j k : ℕ) → v * 2 ^ k % 2 ^ (j + k) ≡ v % 2 ^ j * 2 ^ k
shl-mod v j k =
    let z : v * 2 ^ k % 2 ^ k ≡ 0 = ap (λ (x : ℕ). x % 2 ^ k) (sym (add-zero (v * 2 ^ k))) ∙ low v k (pow_pos k) in
    mod-pow-add (v * 2 ^ k) j k ∙ ap₂ (λ (x y : ℕ). x % 2 ^ j * 2 ^ k + y) (shl-shr v k) z ∙ add-zero (v % 2 ^ j * 2 ^ k)

-- shifted up by e + m, and down by m
shifts_up : (v m e j : ℕ) → v * 2 ^ (e + m) % 2 ^ (j + (e + m)) / 2 ^ m ≡ v % 2 ^ j * 2 ^ e
shifts_up v m e j =
    ap (λ (x : ℕ). x / 2 ^ m) (shl-mod v j (e + m) ∙ ap (λ (x : ℕ). v % 2 ^ j * x) (pow-add 2 e m) ∙ sym (mul_assoc (v % 2 ^ j) (2 ^ e) (2 ^ m)))
    ∙ shl-shr (v % 2 ^ j * 2 ^ e) m

-- a field is cut out of one of n bits at b, which ends inside it
pub cut : (s : List ℕ) (b n at w m v : ℕ) → n ≤ 64 → b ≤ at → at + w ≤ b + n → m + n + b ≡ 64 + at → v ≡ field s b n
    → v * 2 ^ m % 2 ^ 64 / 2 ^ (64 - w) ≡ field s at w
cut s b n at w m v h l k q e =
    let r : ℕ = n - (at - b) - w in
    let g : n ≡ at - b + w + r = omega arith in
    let f : 64 ≡ w + r + m = omega arith in
    let d : 64 - w ≡ m + r = omega arith in
    let a : b + (at - b) ≡ at = omega arith in
    ap₂ (λ (x y : ℕ). v * 2 ^ m % 2 ^ x / 2 ^ y) f d
    ∙ shifts v m w r
    ∙ ap (λ (x : ℕ). x / 2 ^ r % 2 ^ w) (e ∙ ap (field s b) g)
    ∙ field-part s b (at - b) w r
    ∙ ap (λ (x : ℕ). field s x w) a

-- a field is cut out of the eight octets from its first on
pub cut-first : (s : List ℕ) (at w v : ℕ) → w ≤ 57 → v ≡ field s (at / 8 * 8) 64 → v * 2 ^ (at % 8) % 2 ^ 64 / 2 ^ (64 - w) ≡ field s at w
cut-first s at w v h e = cut s (at / 8 * 8) 64 at w (at % 8) v (omega arith) (omega arith) (omega arith) (omega arith) e

-- all of whose bits are 0
pub cut-none : (s : List ℕ) (at w v : ℕ) → w ≤ 57 → v ≡ 0 → v ≡ field s (at / 8 * 8) 64 → field s at w ≡ 0
cut-none s at w v h z e =
    let n : v * 2 ^ (at % 8) % 2 ^ 64 ≡ 0 = ap (λ (x : ℕ). x % 2 ^ 64) (ap (λ (x : ℕ). x * 2 ^ (at % 8)) z ∙ zero-mul (2 ^ (at % 8))) in
    sym (cut-first s at w v h e) ∙ ap (λ (x : ℕ). x / 2 ^ (64 - w)) n ∙ div-eq_of_lt (pow_pos (64 - w))

-- a field that reaches into the ninth octet from i on, of which x is what the shift by k leaves
pub cut-over : (s : List ℕ) (i at w m v k x : ℕ) → m < 8 → w ≤ 64 → 64 < m + w → i * 8 + m ≡ at → k + m + w ≡ 72 → v ≡ field s (i * 8) 64
    → x ≡ get_or s (i + 8) 0 / 2 ^ k → get_or s (i + 8) 0 < 256 → v * 2 ^ m % 2 ^ 64 / 2 ^ (64 - w) + x ≡ field s at w
cut-over s i at w m v k x h l n q y e z o =
    let r : ℕ = m + w - 64 in
    let j : ℕ = 64 - m in
    let f : 64 ≡ j + (r + (64 - w)) = omega arith in
    let d : m ≡ r + (64 - w) = omega arith in
    let g : j + r ≡ w = omega arith in
    let b : 64 ≡ m + j = omega arith in
    let u : k ≡ 8 - r = omega arith in
    let p : (i + 8) * 8 ≡ at + j = omega arith in
    let top : v * 2 ^ m % 2 ^ 64 / 2 ^ (64 - w) ≡ v % 2 ^ j * 2 ^ r = ap₂ (λ (a c : ℕ). v * 2 ^ a % 2 ^ c / 2 ^ (64 - w)) d f ∙ shifts_up v (64 - w) r j in
    let mid : v % 2 ^ j ≡ field s at j = ap (λ (a : ℕ). a % 2 ^ j) (e ∙ ap (field s (i * 8)) b) ∙ field-low s (i * 8) m j ∙ ap (λ (a : ℕ). field s a j) q in
    let bits : get_or s (i + 8) 0 / 2 ^ k ≡ field s ((i + 8) * 8) r = ap (λ (a : ℕ). get_or s (i + 8) 0 / 2 ^ a) u ∙ sym (octet-field s (i + 8) r (omega arith) o) in
    let end : x ≡ field s (at + j) r = z ∙ bits ∙ ap (λ (a : ℕ). field s a r) p in
    ap₂ ◌+◌ (top ∙ ap (λ (a : ℕ). a * 2 ^ r) mid) end ∙ sym (field-split s at j r) ∙ ap (field s at) g

-- ## Putting

-- a field of a + b bits is put by its first a and then its last b
pub set_field-split : (s : List ℕ) (at a b v : ℕ) → set_field s at (a + b) v ≡ set_field (set_field s at a (v / 2 ^ b)) (at + a) b v
unfolding set_field
set_field-split s at a zero v = rw add-zero (ap (set_field s at a) (sym (div-one v)))
set_field-split s at a (suc b) v =
    let q : v / 2 / 2 ^ b ≡ v / 2 ^ suc b = shr-shr v 1 b ∙ ap (λ (x : ℕ). v / 2 ^ x) (one-add b) in
    rw add-suc
    (ap₂ (λ (x : List ℕ) (y : ℕ). set_bit x y (v % 2)) (set_field-split s at a b (v / 2) ∙ ap (λ (x : ℕ). set_field (set_field s at a x) (at + a) b (v / 2)) q) (sym (add_assoc at a b)))

-- no more than the low w bits of v are put
pub set_field-mod : (s : List ℕ) (at w v : ℕ) → set_field s at w v ≡ set_field s at w (v % 2 ^ w)
unfolding set_field
set_field-mod s at zero v = refl
set_field-mod s at (suc w) v =
    let q : v % 2 ^ suc w ≡ v % 2 ^ (w + 1) = ap (λ (x : ℕ). v % 2 ^ x) (sym (add-one w)) in
    let d : v / 2 % 2 ^ w ≡ v % 2 ^ suc w / 2 = sym (ap (λ (x : ℕ). x / 2) q ∙ pow-field v w 1) in
    let m : v % 2 ≡ v % 2 ^ suc w % 2 = sym (ap (λ (x : ℕ). x % 2) q ∙ mod-mod-pow v w 1) in
    ap₂ (λ (x : List ℕ) (y : ℕ). set_bit x (at + w) y) (set_field-mod s at w (v / 2) ∙ ap (set_field s at w) d) m

-- the octet o with v in the w bits above its lowest k
unfoldable pub merge : ℕ → ℕ → ℕ → ℕ → ℕ
merge o k w v = (o / 2 ^ (k + w) * 2 ^ w + v) * 2 ^ k + o % 2 ^ k

-- no bits
merge_none : (o k v : ℕ) → v < 1 → merge o k 0 v ≡ o
unfolding merge
merge_none o k v h =
    let e : o / 2 ^ (k + 0) * 2 ^ 0 + v ≡ o / 2 ^ k = rw add-zero (omega arith) in
    ap (λ (x : ℕ). x * 2 ^ k + o % 2 ^ k) e ∙ split o k

merge-high : (o k w v : ℕ) → merge o k w v / 2 ^ k ≡ o / 2 ^ (k + w) * 2 ^ w + v
unfolding merge
merge-high o k w v = high (o / 2 ^ (k + w) * 2 ^ w + v) k (mod-lt o (pow_pos k))

merge_low : (o k w v : ℕ) → merge o k w v % 2 ^ k ≡ o % 2 ^ k
unfolding merge
merge_low o k w v = low (o / 2 ^ (k + w) * 2 ^ w + v) k (mod-lt o (pow_pos k))

-- the low k bits are among the low k + 1
low-low : (n k : ℕ) → n % 2 ^ (k + 1) % 2 ^ k ≡ n % 2 ^ k
low-low n k =
    let c : k + 1 ≡ 1 + k = omega arith in
    ap (λ (x : ℕ). n % 2 ^ x % 2 ^ k) c ∙ mod-mod-pow n 1 k

-- one bit more
merge-bit : (o k w v : ℕ) → with_bit (merge o (k + 1) w (v / 2)) k (v % 2) ≡ merge o k (suc w) v
unfolding merge with_bit
merge-bit o k w v =
    let x : ℕ = merge o (k + 1) w (v / 2) in
    let h : ℕ = o / 2 ^ (k + suc w) in
    let d : k + 1 + w ≡ k + suc w = omega arith in
    let up : x / 2 ^ k / 2 ≡ h * 2 ^ w + v / 2 = shr-shr x k 1 ∙ merge-high o (k + 1) w (v / 2) ∙ ap (λ (y : ℕ). o / 2 ^ y * 2 ^ w + v / 2) d in
    let down : x % 2 ^ k ≡ o % 2 ^ k = sym (low-low x k) ∙ ap (λ (y : ℕ). y % 2 ^ k) (merge_low o (k + 1) w (v / 2)) ∙ low-low o k in
    let all : (h * 2 ^ w + v / 2) * 2 + v % 2 ≡ h * 2 ^ suc w + v = rw (pow-suc, ← mul_assoc h (2 ^ w) 2) (omega arith) in
    ap₂ (λ (y z : ℕ). (y * 2 + v % 2) * 2 ^ k + z) up down ∙ ap (λ (y : ℕ). y * 2 ^ k + o % 2 ^ k) all

-- a field inside one octet
set_field-octet : (s : List ℕ) (at w v k : ℕ) → at % 8 + w + k ≡ 8 → v < 2 ^ w → at / 8 < length s
    → set_field s at w v ≡ set s (at / 8) (merge (get_or s (at / 8) 0) k w v)
unfolding set_field set_bit
set_field-octet s at zero v k h l n = sym (ap (set s (at / 8)) (merge_none (get_or s (at / 8) 0) k v l) ∙ set-get_or s (at / 8) 0)
set_field-octet s at (suc w) v k h l n =
    let i : ℕ = at / 8 in
    let o : ℕ = get_or s i 0 in
    let m : ℕ = merge o (k + 1) w (v / 2) in
    let p : (at + w) / 8 ≡ i = omega arith in
    let q : 7 - (at + w) % 8 ≡ k = omega arith in
    let e : set_field s at w (v / 2) ≡ set s i m = set_field-octet s at w (v / 2) (k + 1) (omega arith) (omega (arith, pow-suc 2 w)) n in
    ap (λ (t : List ℕ). set_bit t (at + w) (v % 2)) e
    ∙ ap₂ (λ (x y : ℕ). set (set s i m) x (with_bit (get_or (set s i m) x 0) y (v % 2))) p q
    ∙ ap (λ (x : ℕ). set (set s i m) i (with_bit x k (v % 2))) (get_or-set_same s i m 0 n)
    ∙ set-set s i m (with_bit m k (v % 2))
    ∙ ap (set s i) (merge-bit o k w v)

-- an octet stays one
merge_lt : (o k w v : ℕ) → o < 256 → k + w ≤ 8 → v < 2 ^ w → merge o k w v < 256
unfolding merge
merge_lt o k w v h l f =
    let n : ℕ = 8 - (k + w) in
    let e : 8 ≡ n + (k + w) = omega arith in
    let d : n + w + k ≡ 8 = omega arith in
    let q : o / 2 ^ (k + w) < 2 ^ n = shr_lt n (k + w) (subst (λ (x : ℕ). o < 2 ^ x) e h) in
    let all : merge o k w v < 2 ^ n * 2 ^ w * 2 ^ k = digits_lt (digits_lt q f) (mod-lt o (pow_pos k)) in
    subst (λ (x : ℕ). merge o k w v < x) (ap (λ (x : ℕ). x * 2 ^ k) (sym (pow-add 2 n w)) ∙ sym (pow-add 2 (n + w) k) ∙ ap (λ (x : ℕ). 2 ^ x) d) all

-- a power of two as the shift of 1
pub one_shl : (k : ℕ) → k < 64 → 1 * 2 ^ k % 2 ^ 64 ≡ 2 ^ k
one_shl k h = shl_exact 1 k 64 (omega arith) (omega arith) ∙ one-mul (2 ^ k)

module _ (o k w v : ℕ) (h : o < 256) (l : k + w ≤ 8) (f : v < 2 ^ w) where
  -- no shift of an octet's parts loses a bit in a number of 64
  high_part : o / 2 ^ (k + w) * 2 ^ w % 2 ^ 64 ≡ o / 2 ^ (k + w) * 2 ^ w
  high_part = shl_exact 8 w 64 (omega (arith, shr_le o (k + w))) (omega arith)

  pub merge-parts : (o / 2 ^ (k + w) * 2 ^ w % 2 ^ 64 + v) * 2 ^ k % 2 ^ 64 + o % (1 * 2 ^ k % 2 ^ 64) ≡ merge o k w v
  unfolding merge
  merge-parts =
      let x : ℕ = o / 2 ^ (k + w) * 2 ^ w + v in
      let b : merge o k w v < 256 = merge_lt o k w v h l f in
      let m : x * 2 ^ k % 2 ^ 64 ≡ x * 2 ^ k = mod-eq_of_lt (omega arith) in
      ap₂ (λ (y z : ℕ). (y + v) * 2 ^ k % 2 ^ 64 + o % z) high_part (one_shl k (omega arith)) ∙ ap (λ (y : ℕ). y + o % 2 ^ k) m

  pub high_lt : o / 2 ^ (k + w) * 2 ^ w % 2 ^ 64 + v < 2 ^ 64
  high_lt =
      let q : o / 2 ^ (k + w) * 2 ^ w < 2 ^ (8 + w) = shl_lt 8 w (omega (arith, shr_le o (k + w))) in
      rw high_part (omega (arith, pow_mono {i = 8 + w} {j = 16} (omega arith), pow_mono {i = w} {j = 8} (omega arith)))

  pub parts_lt : (o / 2 ^ (k + w) * 2 ^ w % 2 ^ 64 + v) * 2 ^ k % 2 ^ 64 + o % (1 * 2 ^ k % 2 ^ 64) < 256
  parts_lt = rw merge-parts (merge_lt o k w v h l f)

-- t bits more of v, from the top of its w bits, into the octet i; the code masks them by the shift of 1
pub put_step : (s d : List ℕ) (at w v k t i n x : ℕ) → k + t ≤ w → t < 64 → d ≡ set_field s at k (v / 2 ^ (w - k)) → i ≡ (at + k) / 8
    → (at + k) % 8 + t + n ≡ 8 → i < length d → x ≡ merge (get_or d i 0) n t (v / 2 ^ (w - k - t) % (1 * 2 ^ t % 2 ^ 64))
    → set d i x ≡ set_field s at (k + t) (v / 2 ^ (w - (k + t)))
put_step s d at w v k t i n x h b e p q l f =
    let r : ℕ = w - k - t in
    let m : r + t ≡ w - k = omega arith in
    let a : r ≡ w - (k + t) = omega arith in
    let y : set_field s at k (v / 2 ^ r / 2 ^ t) ≡ d = ap (set_field s at k) (shr-shr v r t ∙ ap (λ (z : ℕ). v / 2 ^ z) m) ∙ sym e in
    ap₂ (set d) p (f ∙ ap₂ (λ (z u : ℕ). merge (get_or d z 0) n t (v / 2 ^ r % u)) p (one_shl t b))
    ∙ sym (set_field-octet d (at + k) t (v / 2 ^ r % 2 ^ t) n q (mod-lt (v / 2 ^ r) (pow_pos t)) (omega arith))
    ∙ sym (set_field-mod d (at + k) t (v / 2 ^ r))
    ∙ ap (λ (z : List ℕ). set_field z (at + k) t (v / 2 ^ r)) (sym y)
    ∙ sym (set_field-split s at k t (v / 2 ^ r))
    ∙ ap (λ (z : ℕ). set_field s at (k + t) (v / 2 ^ z)) a

-- all bits of v are put
pub put_done : (s d : List ℕ) (at w v k : ℕ) → k ≡ w → d ≡ set_field s at k (v / 2 ^ (w - k)) → d ≡ set_field s at w v
put_done s d at w v k h e =
    let n : w - k ≡ 0 = omega arith in
    e ∙ ap₂ (set_field s at) h (ap (λ (x : ℕ). v / 2 ^ x) n ∙ div-one v)
