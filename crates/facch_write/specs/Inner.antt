-- What only private functions' contracts speak of; nothing public rests on it. Assumes nothing.
use Rattle.std.specs.Prelude.{◌≡◌, List, Bool, false, ℕ, ◌+◌, ◌*◌, ◌^◌, ◌≤◌, ◌<◌, eqb}
use Rattle.bits.specs.Field.{pick}
use Rattle.csn1.specs.Format.{num_bits, coded_bit}
use Rattle.csn1.specs.Grammar.{number, ◌and◌, one_of, format}
use Rattle.csn1.specs.Told.{as_bit}
use Rattle.call.specs.Call.{call_grammar}
use Rattle.facch.specs.declared.Notification.{Notification}
use Rattle.facch.specs.Message.{paging}
use Rattle.facch.specs.Back.{notified_value}
use Rattle.facch_write.specs.declared.strips.Strip.{Strip}

-- ## Bits as one number

-- an L/H bit
abbrev pub coded_strip : ℕ → Bool → Strip
coded_strip at high = record { width = 1; value = coded_bit at (as_bit high) }

-- a flag and, where it is set, a number behind it
abbrev pub flagged_strip : Bool → ℕ → ℕ → Strip
flagged_strip here w v = pick here (record { width = 1 + w; value = 2 ^ w + v }) (record { width = 1; value = 0 })

-- an absent release: nothing where all bits are used, else L
abbrev pub absent_strip : ℕ → ℕ → Strip
absent_strip at end = pick (eqb at end) (record { width = 0; value = 0 }) (coded_strip at false)

-- one behind the other
abbrev pub beside_strip : Strip → Strip → Strip
beside_strip a b = record { width = a.width + b.width; value = a.value * 2 ^ b.width + b.value }

-- the strip has these bits, not more than a word, and its number no others
pub record Says (s : Strip) (bs : List ℕ) : Type 0 where
  pub bits : num_bits s.width s.value ≡ bs
  pub small : s.value < 2 ^ s.width
  pub few : s.width ≤ 42

-- ## The first octet, and what is notified

abbrev pub head_bits : Notification → ℕ → List ℕ
head_bits m n = (format (number 8 and one_of call_grammar paging)).bits n 0 (0, notified_value m)
