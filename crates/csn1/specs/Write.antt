-- What writers ask of what stands behind a flag. Assumes nothing.
use Rattle.std.specs.Prelude.{Bool, true, false, not, ℕ, ltb, eqb}

-- a number behind a flag: below its limit, and 0 where the flag is not set
abbrev pub flagged_right : Bool → ℕ → ℕ → Bool
flagged_right true v n = ltb v n
flagged_right false v n = eqb v 0

-- a bit behind a flag: not set where the flag is not
abbrev pub behind : Bool → Bool → Bool
behind true b = true
behind false b = not b
