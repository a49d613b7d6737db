-- Octets as bits. Bit 0 is the top bit of the first octet, bit 8 the top bit of the second. Assumes nothing.
use Rattle.std.specs.Prelude.{List, [], ◌∷◌, Bool, true, false, ℕ, zero, suc, ◌+◌, ◌-◌, ◌*◌, ◌/◌, ◌%◌, ◌^◌, length, get_or, set, leb, ltb}
use Rattle.bits.specs.declared.Got.{Got}
use Rattle.bits.specs.declared.Got.TheVariants.{Bits, Short}

-- ## Reading

-- the bit at i: 0 or 1
unfoldable pub bit : List ℕ → ℕ → ℕ
bit s i = get_or s (i / 8) 0 / 2 ^ (7 - i % 8) % 2

-- the number in the w bits from at on, the first of them the highest
unfoldable pub field : List ℕ → ℕ → ℕ → ℕ
field s at zero = 0
field s at (suc w) = field s at w * 2 + bit s (at + w)

-- ## Writing

-- the octet o with b for its bit of weight 2 ^ k
unfoldable pub with_bit : ℕ → ℕ → ℕ → ℕ
with_bit o k b = (o / 2 ^ k / 2 * 2 + b) * 2 ^ k + o % 2 ^ k

-- s with b for its bit at i
unfoldable pub set_bit : List ℕ → ℕ → ℕ → List ℕ
set_bit s i b = set s (i / 8) (with_bit (get_or s (i / 8) 0) (7 - i % 8) b)

-- s with the number v in the w bits from at on
unfoldable pub set_field : List ℕ → ℕ → ℕ → ℕ → List ℕ
set_field s at zero v = s
set_field s at (suc w) v = set_bit (set_field s at w (v / 2)) (at + w) (v % 2)

-- ## What is answered for any place and width

abbrev pub both : Bool → Bool → Bool
both true b = b
both false b = false

abbrev pub pick : {A : Type 0} → Bool → A → A → A
pick true a b = a
pick false a b = b

-- tests in the order in which they are made, each with the number of its refusal: the number of the first that is not passed, 0 where all are
abbrev pub first_due : List (Bool × ℕ) → ℕ
first_due [] = 0
first_due (t ∷ ts) = pick t.0 (first_due ts) t.1

-- the octets have the w bits from at on, and no field is wider than 64
abbrev pub inside : List ℕ → ℕ → ℕ → Bool
inside s at w = both (leb w 64) (leb (at + w) (length s * 8))

-- the field, or that its bits ran out
unfoldable pub fetched : List ℕ → ℕ → ℕ → Got
fetched s at w = pick (inside s at w) (Bits (field s at w)) Short

-- the w bits from at on are there, and hold v
unfoldable pub can_put : List ℕ → ℕ → ℕ → ℕ → Bool
can_put s at w v = both (inside s at w) (ltb v (2 ^ w))

-- s after v was put, or s itself where that was refused
unfoldable pub after_put : List ℕ → ℕ → ℕ → ℕ → List ℕ
after_put s at w v = pick (can_put s at w v) (set_field s at w v) s
