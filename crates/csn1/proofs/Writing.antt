-- What a writer goes by: putting a format's bits is a row of `bits::put`, a step at a time. Assumes nothing.
use mathlib.Core.Path.{◌≡◌, refl, sym, ap, ap₂, ◌∙◌}
use mathlib.Core.List.{List, [], ◌∷◌, ◌++◌, append_assoc, append-nil}
use mathlib.Core.Bool.{Bool, true, false}
use Prim.Native.Nat.{ℕ, zero, suc, ◌+◌, ◌*◌, ◌/◌, ◌%◌, ◌^◌, ◌≤◌, ◌<◌}
use native.Mathlib.Nat.{mod-eq_of_lt, pow-suc, add-zero, add-suc, mul_assoc}
use native.Mathlib.Omega.{arith}
use lib.ListN.{length, length-append}
use lib.Arith.{digits_lt}
use lib.Pow.{pow-add}
use borrow.Author.Tests.{le-leb, lt-ltb}
use mir.Val.{bool_byte}
use Rattle.bits.specs.Field.{set_field, can_put, after_put}
use Rattle.bits.proofs.Laws.{length-set_field}
use Rattle.csn1.specs.Format.{num_bits, total, row_bits, RowFits, put_bits}
use Rattle.csn1.specs.Told.{is_there, there, is_one, as_bit}
use Rattle.csn1.proofs.Holding.{put_join, put_num, length-num_bits}

-- ## Tests, bits and flags

pub bit-back : (b : ℕ) → b < 2 → as_bit (is_one b) ≡ b
bit-back zero h = refl
bit-back (suc zero) h = refl
bit-back (suc (suc b)) h = absurd (omega arith)

pub flag-back : (b : Bool) → is_one (as_bit b) ≡ b
flag-back true = refl
flag-back false = refl

pub flag_lt : (b : Bool) → as_bit b < 2
flag_lt true = omega arith
flag_lt false = omega arith

-- a flag that the code casts to a number
pub flag_byte : (b : Bool) → bool_byte b ≡ as_bit b
flag_byte true = refl
flag_byte false = refl

pub byte_lt : (b : Bool) → bool_byte b < 2
byte_lt true = omega arith
byte_lt false = omega arith

pub there_back : {A : Type 0} (b : Bool) (a : A) → is_there (there b a) ≡ b
there_back true a = refl
there_back false a = refl

-- ## Bits and numbers in front of more

-- a number and more
pub put_first : (s : List ℕ) (p w v : ℕ) (bs : List ℕ) → put_bits s p (num_bits w v ++ bs) ≡ put_bits (set_field s p w v) (p + w) bs
put_first s p w v bs = put_join s p (num_bits w v) bs ∙ ap₂ (λ (t : List ℕ) (k : ℕ). put_bits t (p + k) bs) (put_num s p w v) (length-num_bits w v)

-- nothing
pub put_none : (s : List ℕ) (p : ℕ) → put_bits s p [] ≡ s
unfolding put_bits
put_none s p = refl

-- ## What `bits::put` leaves

-- d is s after a number was put that has its bits, in octets that have the place
module _ (s d : List ℕ) (p w v : ℕ) (e : d ≡ after_put s p w v) (h : w ≤ 64) (l : p + w ≤ length s * 8) (f : v < 2 ^ w) where
  pub put_known : d ≡ set_field s p w v
  unfolding after_put can_put
  put_known = rw (le-leb w 64 h, le-leb (p + w) (length s * 8) l, lt-ltb v (2 ^ w) f) at e

  pub put_length : length d ≡ length s
  put_length = ap length put_known ∙ length-set_field s p w v

  pub put_last : d ≡ put_bits s p (num_bits w v)
  put_last = put_known ∙ sym (put_num s p w v)

  -- and more is put behind it
  pub put_then : (bs : List ℕ) → put_bits d (p + w) bs ≡ put_bits s p (num_bits w v ++ bs)
  put_then bs = ap (λ (t : List ℕ). put_bits t (p + w) bs) put_known ∙ sym (put_first s p w v bs)

-- ## Numbers side by side, put as one

-- the one number that the numbers of a row make
abbrev pub glued : List ℕ → List ℕ → ℕ
glued [] l = 0
glued (w ∷ ws) [] = 0
glued (w ∷ ws) (v ∷ l) = v * 2 ^ total ws + glued ws l

pub glued_lt : (ws l : List ℕ) → RowFits ws l → glued ws l < 2 ^ total ws
glued_lt [] [] f = omega arith
glued_lt [] (v ∷ l) f = absurd f
glued_lt (w ∷ ws) [] f = absurd f
glued_lt (w ∷ ws) (v ∷ l) f = rw (pow-add 2 w (total ws)) (digits_lt f.0 (glued_lt ws l f.1))

-- the bits of two numbers side by side are those of one
pub num-join : (a b x y : ℕ) → y < 2 ^ b → num_bits (a + b) (x * 2 ^ b + y) ≡ num_bits a x ++ num_bits b y
unfolding num_bits
num-join a zero x y h =
    let e : x * 1 + y ≡ x = omega arith in
    rw (add-zero a, append-nil) (ap (num_bits a) e)
num-join a (suc b) x y h =
    let e : x * 2 ^ suc b ≡ x * 2 ^ b * 2 = rw (pow-suc, mul_assoc) in
    let q : (x * 2 ^ suc b + y) / 2 ≡ x * 2 ^ b + y / 2 = omega arith in
    let r : (x * 2 ^ suc b + y) % 2 ≡ y % 2 = omega arith in
    rw (add-suc a b, q, r, num-join a b x (y / 2) (omega (arith, pow-suc 2 b))) (append_assoc (num_bits a x) (num_bits b (y / 2)) (y % 2 ∷ []))

-- a bit and a number
pub led-join : (w b v : ℕ) → b < 2 → v < 2 ^ w → b ∷ num_bits w v ≡ num_bits (1 + w) (b * 2 ^ w + v)
unfolding num_bits
led-join w b v h f = sym (num-join 1 w b v f ∙ ap (λ (x : ℕ). x ∷ num_bits w v) (mod-eq_of_lt h))

pub row-glued : (ws l : List ℕ) → RowFits ws l → row_bits ws l ≡ num_bits (total ws) (glued ws l)
unfolding num_bits
row-glued [] [] f = refl
row-glued [] (v ∷ l) f = absurd f
row-glued (w ∷ ws) [] f = absurd f
row-glued (w ∷ ws) (v ∷ l) f =
    ap (λ (x : List ℕ). num_bits w v ++ x) (row-glued ws l f.1) ∙ sym (num-join w (total ws) v (glued ws l) (glued_lt ws l f.1))

pub length-row : (ws l : List ℕ) → length l ≡ length ws → length (row_bits ws l) ≡ total ws
length-row [] l e = refl
length-row (w ∷ ws) [] e = absurd (omega arith)
length-row (w ∷ ws) (v ∷ l) e = length-append (num_bits w v) (row_bits ws l) ∙ omega (arith, length-num_bits w v, length-row ws l (omega arith))

-- a row that fits has a number for each width
pub fits-length : (ws l : List ℕ) → RowFits ws l → length l ≡ length ws
fits-length [] [] f = refl
fits-length [] (v ∷ l) f = absurd f
fits-length (w ∷ ws) [] f = absurd f
fits-length (w ∷ ws) (v ∷ l) f = omega (arith, fits-length ws l f.1)

-- a row and a bit
pub row-led : (ws l : List ℕ) (b : ℕ) (bs : List ℕ) → RowFits ws l → b < 2
    → row_bits ws l ++ (b ∷ bs) ≡ num_bits (total ws + 1) (glued ws l * 2 + b) ++ bs
unfolding num_bits
row-led ws l b bs f h =
    rw (row-glued ws l f, num-join (total ws) 1 (glued ws l) b h, append_assoc, mod-eq_of_lt h)
