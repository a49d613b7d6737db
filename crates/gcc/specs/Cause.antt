-- Cause (44.068, 9.4.3). Assumes nothing.
use Rattle.std.specs.Prelude.{List, [], ◌∷◌, ◌++◌, Bool, true, false, ℕ, ◌+◌, ◌-◌, length, get_or, take, drop, replicate, leb, eqb}
use Rattle.std.proofs.Math.Option.{Option, none, some}
use Prim.Native.String.{String}
use Rattle.bits.specs.Field.{pick, both, first_due}
use Rattle.gcc.specs.Octet.{all_between}
use Rattle.gcc.specs.declared.cause.Meaning.{Meaning}
use Rattle.gcc.specs.declared.cause.Meaning.TheVariants.{Nothing, Specific, Unspecific}
use Rattle.gcc.specs.declared.cause.Cause.{Cause}
use Rattle.gcc.specs.declared.cause.Reading.{Reading}

-- ## Table 9.4

-- the causes from one number to another, and their words
pub record Row : Type 0 where
  pub first : ℕ
  pub last : ℕ
  pub words : String

abbrev at : ℕ → String → Row
at n w = record { first = n; last = n; words = w }

abbrev pub table : List Row
table =
    at 3 "Illegal MS"
    ∷ at 5 "IMEI not accepted"
    ∷ at 6 "Illegal ME"
    ∷ at 8 "Service not authorized"
    ∷ at 9 "Application not supported on the protocol"
    ∷ at 10 "RR connection aborted"
    ∷ at 16 "Normal call clearing"
    ∷ at 17 "Network failure"
    ∷ at 20 "Busy"
    ∷ at 22 "Congestion"
    ∷ at 23 "User not originator of call"
    ∷ at 24 "Network wants to maintain call"
    ∷ at 30 "Response to GET STATUS"
    ∷ at 32 "Service option not supported"
    ∷ at 33 "Requested service option not subscribed"
    ∷ at 34 "Service option temporarily out of order"
    ∷ at 38 "Call cannot be identified"
    ∷ record { first = 48; last = 63; words = "retry upon entry into a new cell" }
    ∷ at 81 "Invalid transaction identifier value"
    ∷ at 95 "Semantically incorrect message"
    ∷ at 96 "Invalid mandatory information"
    ∷ at 97 "Message type non-existent or not implemented"
    ∷ at 98 "Message type not compatible with the protocol state"
    ∷ at 99 "Information element non-existent or not implemented"
    ∷ at 100 "Message type not compatible with the protocol state"
    ∷ at 112 "Protocol error, unspecified"
    ∷ []

abbrev pub covers : Row → ℕ → Bool
covers r n = both (leb r.first n) (leb n r.last)

-- a row of the list covers n
abbrev pub among : List Row → ℕ → Bool
among [] n = false
among (r ∷ l) n = pick (covers r n) true (among l n)

unfoldable pub is_listed : ℕ → Bool
is_listed n = among table n

-- the words of the row that covers n
abbrev pub words_among : List Row → ℕ → String
words_among [] n = ""
words_among (r ∷ l) n = pick (covers r n) r.words (words_among l n)

abbrev pub words_of : Meaning → String
words_of Nothing = ""
words_of (Specific n) = words_among table n
words_of Unspecific = "unspecific cause"

-- the meaning as two numbers: 0 and 0 for nothing, 1 and the number in the table for a specific cause, 2 and 0 for an unspecific one
abbrev pub meaning_numbers : Meaning → List ℕ
meaning_numbers Nothing = 0 ∷ 0 ∷ []
meaning_numbers (Specific n) = 1 ∷ n ∷ []
meaning_numbers Unspecific = 2 ∷ 0 ∷ []

-- ## Reading

-- <cause> ::= 1 cause_part [ diagnostics ] | 0 cause_part <cause>
-- the cause parts and the diagnostics, or none where no octet closes the cause
abbrev pub led : ℕ → Option (List ℕ × List ℕ) → Option (List ℕ × List ℕ)
led n none = none
led n (some (l, d)) = some (n ∷ l, d)

unfoldable pub parse : List ℕ → Option (List ℕ × List ℕ)
parse [] = none
parse (o ∷ s) = pick (leb 128 o) (some ((o - 128) ∷ [], s)) (led o (parse s))

-- what so many cause parts mean; n is the only one, where there is one
abbrev pub single : ℕ → ℕ → Meaning
single count n = pick (both (eqb count 1) (is_listed n)) (Specific n) Unspecific

-- a single cause part that table 9.4 lists is that cause; any other, and more than one, are unspecific
unfoldable pub meaning_of : List ℕ → Meaning
meaning_of l = single (length l) (get_or l 0 0)

-- the places of an array of 255, filled from the first on
abbrev pub in_places : List ℕ → List ℕ
in_places l = l ++ replicate (255 - length l) 0

abbrev pub cause_of : List ℕ → List ℕ → Cause
cause_of l d = record { count = length l; septets = in_places l; size = length d; diagnostics = in_places d }

abbrev pub refused : ℕ → Reading
refused m = record { refusal = m; meaning = Nothing; cause = cause_of [] [] }

abbrev pub said : List ℕ → List ℕ → Reading
said l d = record { refusal = 0; meaning = meaning_of l; cause = cause_of l d }

abbrev pub told : Option (List ℕ × List ℕ) → Reading
told none = refused 13
told (some (l, d)) = said l d

-- an empty element, one of more than 255 octets and one that never closes are 13
unfoldable pub read_of : List ℕ → Reading
read_of s = pick (leb (length s) 255) (told (parse s)) (refused 13)

-- ## Writing

-- the cause parts and the diagnostics as octets
unfoldable pub cause_octets : List ℕ → List ℕ → List ℕ
cause_octets [] d = d
cause_octets (n ∷ []) d = (n + 128) ∷ d
cause_octets (n ∷ m ∷ l) d = n ∷ cause_octets (m ∷ l) d

abbrev pub parts_of : Cause → List ℕ
parts_of c = take c.count c.septets

abbrev pub diagnostics_of : Cause → List ℕ
diagnostics_of c = take c.size c.diagnostics

-- each cause part has seven bits, and the other places are zero
unfoldable pub right : Cause → Bool
right c =
    both (all_between 0 127 (parts_of c))
    (both (all_between 0 0 (drop c.count c.septets)) (all_between 0 0 (drop c.size c.diagnostics)))

-- 0 where the cause is written: no cause part and more than 255 octets are 13, then a field out of its range is 12, then a buffer of another
-- size is 11
unfoldable pub write_number : Cause → ℕ → ℕ
write_number c size =
    first_due
    ((both (leb 1 c.count) (leb (c.count + c.size) 255), 13)
    ∷ (right c, 12)
    ∷ (eqb size (c.count + c.size), 11)
    ∷ [])

-- what the buffer then holds
unfoldable pub write_to : Cause → List ℕ → List ℕ
write_to c buf = pick (eqb (write_number c (length buf)) 0) (cause_octets (parts_of c) (diagnostics_of c)) buf
