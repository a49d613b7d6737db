-- What is promised of reading that does not ask. Assumes nothing.
use Rattle.std.specs.Prelude.{◌≡◌, List, ℕ, ◌*◌, ◌≤◌, length}
use Rattle.csn1.specs.Format.{ok}
use Rattle.csn1.specs.Grammar.{Grammar, format}
use Rattle.words.specs.Unasked.{took, taken}

-- 1. What is taken and ends inside the octets is what is read, by every grammar: to ask once at the end is enough.
abbrev pub WhatEndsInsideIsRead : Type 1
WhatEndsInsideIsRead =
    (A : Type 0) (g : Grammar A) (s : List ℕ) (p : ℕ) (a : A) (q : ℕ) → taken g s p ≡ took a q → q ≤ length s * 8 → (format g).read s p ≡ ok a q
