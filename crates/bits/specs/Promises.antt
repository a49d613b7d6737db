-- The law of bit fields, over every width. Assumes nothing.
use Rattle.std.specs.Prelude.{◌≡◌, List, true, ◌⊎◌, ℕ, ◌+◌, ◌*◌, ◌^◌, ◌≤◌, ◌<◌, length}
use Rattle.bits.specs.declared.Got.TheVariants.{Bits}
use Rattle.bits.specs.Field.{field, set_field, fetched, can_put, after_put}

-- 1. A field of w bits is below 2 ^ w.
abbrev pub AFieldIsBelowItsWidth : Type 0
AFieldIsBelowItsWidth = (s : List ℕ) (at w : ℕ) → field s at w < 2 ^ w

-- 2. A field of a + b bits is its first a and then its last b.
abbrev pub AFieldIsItsTwoParts : Type 0
AFieldIsItsTwoParts = (s : List ℕ) (at a b : ℕ) → field s at (a + b) ≡ field s at a * 2 ^ b + field s (at + a) b

-- 3. What was put is read back.
abbrev pub WhatWasPutIsReadBack : Type 0
WhatWasPutIsReadBack = (s : List ℕ) (at w v : ℕ) → v < 2 ^ w → at + w ≤ length s * 8 → field (set_field s at w v) at w ≡ v

-- 4. Nothing else is touched: no field that ends before or begins behind it, and not the number of octets.
abbrev pub NothingElseIsTouched : Type 0
NothingElseIsTouched =
    (s : List ℕ) (at w v : ℕ)
    → (length (set_field s at w v) ≡ length s)
    × ((p n : ℕ) → (p + n ≤ at) ⊎ (at + w ≤ p) → field (set_field s at w v) p n ≡ field s p n)

-- 5. What `put` puts, `fetch` finds.
abbrev pub WhatIsPutIsFound : Type 0
WhatIsPutIsFound = (s : List ℕ) (at w v : ℕ) → can_put s at w v ≡ true → fetched (after_put s at w v) at w ≡ Bits v
