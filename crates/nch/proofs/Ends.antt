-- Where parts of the array end, and the run of one part, as the laws name them. Assumes nothing.
use mathlib.Core.List.{List, [], ◌∷◌}
use mathlib.Core.Option.{Option}
use Prim.Native.Nat.{ℕ, ◌+◌, ◌-◌}
use Rattle.csn1.specs.Told.{is_there, as_bit, or_false}
use Rattle.nch.specs.Places.{numbered_at, release6_at, release7_at, private_at}

-- how many numbers a record has, behind that of the bits used
abbrev pub record_length : ℕ
record_length = private_at + 1 - numbered_at

-- how many each release has
abbrev pub release6_length : ℕ
release6_length = release7_at - release6_at

abbrev pub release7_length : ℕ
release7_length = private_at + 1 - release7_at

abbrev pub uplink_run : Option ℕ → List ℕ
uplink_run v = as_bit (is_there v) ∷ as_bit (or_false v) ∷ []
