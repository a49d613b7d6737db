-- Lines: the octets of a buffer, and the place up to which they are filled. Assumes nothing.
use Rattle.std.specs.Prelude.{Option as CodeOption, Some, None, Bool, cond, List, ◌++◌, ℕ, ◌+◌, length, take, drop, replicate, leb}
use Rattle.text.specs.declared.Line as declared

-- octets, and the place up to which they are filled; `put` takes them apart
pub record Line : Type 0 where
  pub octets : List ℕ
  pub at : ℕ

-- how many octets have room in a line
abbrev pub room : ℕ
room = 512

abbrev pub empty : declared.Line
empty = record { octets = replicate room 0; at = Some 0 }

-- the place of a line in which something did not fit
abbrev pub full : ℕ
full = 18446744073709551615

-- whether octets have room behind those that are there
abbrev pub fits : List ℕ → Line → Bool
fits s l = leb (l.at + length s) (length l.octets)

-- octets added behind those that are there, all of them, or none where they do not fit; the line is then full, and stays so
unfoldable pub added : List ℕ → Line → Line
added s l =
    cond (fits s l)
    (record { octets = take l.at l.octets ++ s ++ drop (l.at + length s) l.octets; at = l.at + length s })
    (record { octets = l.octets; at = full })

-- a place where there is room, and none where there is none
abbrev pub place_if : Bool → ℕ → CodeOption ℕ
place_if room at = cond room (Some at) None

-- the place behind octets that are added, and none where they do not fit
abbrev pub place_behind : List ℕ → Line → CodeOption ℕ
place_behind s l = place_if (fits s l) (l.at + length s)

-- the same of a line that has a place, or none where it is full
abbrev pub with_behind_at : List ℕ → List ℕ → CodeOption ℕ → declared.Line
with_behind_at s octets None = record { octets = octets; at = None }
with_behind_at s octets (Some at) = record { octets = (added s (record { octets = octets; at = at })).octets; at = place_behind s (record { octets = octets; at = at }) }

unfoldable pub with_behind : List ℕ → declared.Line → declared.Line
with_behind s l = with_behind_at s l.octets l.at
