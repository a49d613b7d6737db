-- What is promised of writing into words. Assumes nothing.
use Rattle.std.specs.Prelude.{◌≡◌, List, ◌++◌, ℕ, ◌*◌, ◌≤◌, length, replicate}
use Rattle.csn1.specs.Format.{put_bits}
use Rattle.pen.specs.declared.Words.{Words}
use Rattle.pen.specs.Words.{whole, stored_in, Adds}

-- 1. Bits that were written into words, and stored last, stand in octets of padding as if each had been put there by itself.
abbrev pub WhatIsStoredLastIsPut : Type 0
WhatIsStoredLastIsPut =
    (w : Words) (bs s : List ℕ) → Adds 0 (whole w) bs → length s ≤ 23 → length bs ≤ length s * 8 → stored_in w (length bs) s ≡ put_bits (replicate (length s) 43) 0 bs

-- 2. Bits behind bits are the bits of both, whatever was there before.
abbrev pub WhatIsWrittenBehindIsAdded : Type 0
WhatIsWrittenBehindIsAdded = (x y z : ℕ) (bs cs : List ℕ) → Adds x y bs → Adds y z cs → Adds x z (bs ++ cs)
