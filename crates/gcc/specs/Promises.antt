-- What the elements promise, in the words of the scope. Each contract says that a function gives what its definition gives (`read_of`,
-- `written_of`, `write_number` and `write_to` of the element), for every input; what is promised here of the definitions holds of the functions.
-- Assumes nothing.
use Rattle.std.specs.Prelude.{◌≡◌, Bool, true, false, List, [], ◌∷◌, ◌⊎◌, ℕ, ◌+◌, ◌/◌, ◌%◌, ◌≤◌, ◌<◌, length, get_or, drop}
use Rattle.gcc.specs.Octet.{all_between}
use Rattle.gcc.specs.Numeral.{spell, worth, Spells}
use Rattle.gcc.specs.MessageType as message-type
use Rattle.gcc.specs.CallReference as call-reference
use Rattle.gcc.specs.CallState as call-state
use Rattle.gcc.specs.Cause as cause
use Rattle.gcc.specs.Originator as originator
use Rattle.gcc.specs.StateAttributes as state-attributes
use Rattle.gcc.specs.Sms as sms
use Rattle.gcc.specs.Talker as talker
use Rattle.gcc.specs.Digits as digits
use Rattle.gcc.specs.declared.message_type.Kind.{Kind}
use Rattle.gcc.specs.declared.message_type.Kind.TheVariants.{Nothing}
use Rattle.gcc.specs.declared.call_state.State.{State}
use Rattle.gcc.specs.declared.call_state.State.TheVariants.{Reserved as State-reserved}
use Rattle.gcc.specs.declared.call_reference.Priority.{Priority}
use Rattle.gcc.specs.declared.call_reference.Priority.TheVariants.{Reserved as Priority-reserved}
use Rattle.gcc.specs.declared.state_attributes.Attributes.{Attributes}
use Rattle.gcc.specs.declared.sms.Indications.{Indications}
use Rattle.gcc.specs.declared.talker.Priority.{Priority as Talker}
use Rattle.gcc.specs.declared.cause.Cause.{Cause}
use Rattle.gcc.specs.declared.cause.Reading.{Reading as Cause-reading}

-- the refusal number is 0 exactly where the words hold, and then the rest does
abbrev pub Acceptance : Type 0 → ℕ → Type 0 → Type 0
Acceptance words refusal rest = (refusal ≡ 0 → words) × (words → (refusal ≡ 0) × rest)

-- a list of octets
abbrev pub Octets : List ℕ → Type 0
Octets s = Spells 256 0 s

-- ## Reading what was written gives the meaning back, and what may be written is not refused

abbrev pub AMessageTypeIsReadBack : Type 0
AMessageTypeIsReadBack =
    (s : Bool) (k : Kind)
    → Acceptance (k ≡ Nothing → ⊥) (message-type.written_of s k).refusal
    (message-type.read_of (message-type.written_of s k).octet ≡ record { refusal = 0; sequence = s; kind = k })

-- a reference at most 99,999,999, no reserved priority, a buffer of 4
pub record WritableReference (reference : ℕ) (p : Priority) (size : ℕ) : Type 0 where
  pub small : reference ≤ 99999999
  pub assigned : p ≡ Priority-reserved → ⊥
  pub four : size ≡ 4

abbrev pub ACallReferenceIsReadBack : Type 0
ACallReferenceIsReadBack =
    (reference : ℕ) (p : Priority) (buf : List ℕ)
    → Acceptance (WritableReference reference p (length buf)) (call-reference.write_number reference p (length buf))
    (call-reference.read_of (call-reference.write_to reference p buf) ≡ record { refusal = 0; reference = reference; priority = p })

abbrev pub ACallStateIsReadBack : Type 0
ACallStateIsReadBack =
    (s : State)
    → Acceptance (s ≡ State-reserved → ⊥) (call-state.written_of s).refusal
    (call-state.read_of (call-state.written_of s).half ≡ record { refusal = 0; state = s })

-- from 1 septet and up to 255 octets, septets of seven bits, zero in the other places of the arrays, a buffer of as many octets
pub record WritableCause (c : Cause) (size : ℕ) : Type 0 where
  pub one : 1 ≤ c.count
  pub room : c.count + c.size ≤ 255
  pub parts : all_between 0 127 (cause.parts_of c) ≡ true
  pub unused : all_between 0 0 (drop c.count c.septets) ≡ true
  pub unsized : all_between 0 0 (drop c.size c.diagnostics) ≡ true
  pub exact : size ≡ c.count + c.size

-- a cause whose arrays have their 255 places
abbrev pub ACauseIsReadBack : Type 0
ACauseIsReadBack =
    (c : Cause) (buf : List ℕ)
    → length c.septets ≡ 255
    → length c.diagnostics ≡ 255
    → Acceptance (WritableCause c (length buf)) (cause.write_number c (length buf))
    (cause.read_of (cause.write_to c buf) ≡ record { refusal = 0; meaning = cause.meaning_of (cause.parts_of c); cause = c })

abbrev pub AnOriginatorIndicationIsReadBack : Type 0
AnOriginatorIndicationIsReadBack = (oi : Bool) → originator.read_of (originator.written_of oi) ≡ record { refusal = 0; oi = oi }

abbrev pub StateAttributesAreReadBack : Type 0
StateAttributesAreReadBack = (a : Attributes) → state-attributes.read_of (state-attributes.written_of a) ≡ record { refusal = 0; attributes = a }

abbrev pub SmsIndicationsAreReadBack : Type 0
SmsIndicationsAreReadBack = (i : Indications) → sms.read_of (sms.written_of i) ≡ record { refusal = 0; indications = i }

abbrev pub ATalkerPriorityIsReadBack : Type 0
ATalkerPriorityIsReadBack = (p : Talker) → talker.read_of (talker.number_of p) ≡ record { refusal = 0; priority = p }

-- twelve digits, each 30 to 39 hex, and a buffer of 5
pub record WritableDigits (ds : List ℕ) (size : ℕ) : Type 0 where
  pub twelve : length ds ≡ 12
  pub decimal : all_between 48 57 ds ≡ true
  pub five : size ≡ 5

abbrev pub DigitsAreReadBack : Type 0
DigitsAreReadBack =
    (ds buf : List ℕ)
    → Acceptance (WritableDigits ds (length buf)) (digits.write_number ds (length buf))
    (digits.read_of (digits.write_to ds buf) ≡ record { refusal = 0; digits = ds })

-- ## Writing what was read gives the octets back, with spare bits zero, unassigned codes aside; and what has a meaning is not refused

-- bit 8 zero, bit 7 any, the rest 31 to 36 or 38 to 3B hex
abbrev pub KnownType : ℕ → Type 0
KnownType o = (o < 128) × (((0x31 ≤ o % 64) × (o % 64 ≤ 0x36)) ⊎ ((0x38 ≤ o % 64) × (o % 64 ≤ 0x3b)))

abbrev pub AMessageTypeIsWrittenBack : Type 0
AMessageTypeIsWrittenBack =
    (o : ℕ)
    → o < 256
    → Acceptance (KnownType o) (message-type.read_of o).refusal
    (message-type.written_of (message-type.read_of o).sequence (message-type.read_of o).kind ≡ record { refusal = 0; octet = o })

-- four octets whose first 27 bits are at most 99,999,999
abbrev pub ACallReferenceIsWrittenBack : Type 0
ACallReferenceIsWrittenBack =
    (s : List ℕ)
    → Acceptance ((length s ≡ 4) × (worth 256 0 0 s / 32 ≤ 99999999)) (call-reference.read_of s).refusal
    ((buf : List ℕ)
    → length buf ≡ 4
    → call-reference.Assigned s
    → (call-reference.write_number (call-reference.read_of s).reference (call-reference.read_of s).priority (length buf) ≡ 0)
    × (call-reference.write_to (call-reference.read_of s).reference (call-reference.read_of s).priority buf ≡ call-reference.spare_zero s))

abbrev pub ACallStateIsWrittenBack : Type 0
ACallStateIsWrittenBack =
    (h : ℕ)
    → Acceptance (h ≤ 15) (call-state.read_of h).refusal
    (h ≤ 11 → call-state.written_of (call-state.read_of h).state ≡ record { refusal = 0; half = h })

-- some octet's top bit is 1
pub record ClosingOctet (s : List ℕ) : Type 0 where
  pub place : ℕ
  pub there : place < length s
  pub high : 128 ≤ get_or s place 0

abbrev pub ACauseIsWrittenBack : Type 0
ACauseIsWrittenBack =
    (s : List ℕ)
    → Octets s
    → Acceptance ((length s ≤ 255) × ClosingOctet s) (cause.read_of s).refusal
    ((buf : List ℕ)
    → length buf ≡ length s
    → (cause.write_number (cause.read_of s).cause (length buf) ≡ 0) × (cause.write_to (cause.read_of s).cause buf ≡ s))

abbrev pub AnOriginatorIndicationIsWrittenBack : Type 0
AnOriginatorIndicationIsWrittenBack = (h : ℕ) → Acceptance (h ≤ 15) (originator.read_of h).refusal (originator.written_of (originator.read_of h).oi ≡ originator.spare_zero h)

abbrev pub StateAttributesAreWrittenBack : Type 0
StateAttributesAreWrittenBack =
    (h : ℕ) → Acceptance (h ≤ 15) (state-attributes.read_of h).refusal (state-attributes.written_of (state-attributes.read_of h).attributes ≡ h)

abbrev pub SmsIndicationsAreWrittenBack : Type 0
SmsIndicationsAreWrittenBack = (h : ℕ) → Acceptance (h ≤ 15) (sms.read_of h).refusal (sms.written_of (sms.read_of h).indications ≡ sms.spare_zero h)

abbrev pub ATalkerPriorityIsWrittenBack : Type 0
ATalkerPriorityIsWrittenBack =
    (h : ℕ) → Acceptance (h ≤ 15) (talker.read_of h).refusal (h % 8 ≤ 2 → talker.number_of (talker.read_of h).priority ≡ talker.spare_zero h)

-- five octets of a number of at most twelve digits
abbrev pub DigitsAreWrittenBack : Type 0
DigitsAreWrittenBack =
    (s : List ℕ)
    → Octets s
    → Acceptance ((length s ≡ 5) × (worth 256 0 0 s ≤ 999999999999)) (digits.read_of s).refusal
    ((buf : List ℕ)
    → length buf ≡ 5
    → (digits.write_number (digits.read_of s).digits (length buf) ≡ 0) × (digits.write_to (digits.read_of s).digits buf ≡ s))

-- ## What a cause means

-- 0 where it is refused, 1 and the septet for a single one that table 9.4 lists, 2 for any other
pub record ToldMeaning (r : Cause-reading) : Type 0 where
  pub nothing : (r.refusal ≡ 0 → ⊥) → cause.meaning_numbers r.meaning ≡ 0 ∷ 0 ∷ []
  pub specific :
      r.refusal ≡ 0
      → r.cause.count ≡ 1
      → cause.is_listed (get_or r.cause.septets 0 0) ≡ true
      → cause.meaning_numbers r.meaning ≡ 1 ∷ get_or r.cause.septets 0 0 ∷ []
  pub unspecific :
      r.refusal ≡ 0
      → (r.cause.count ≡ 1 → cause.is_listed (get_or r.cause.septets 0 0) ≡ false)
      → cause.meaning_numbers r.meaning ≡ 2 ∷ 0 ∷ []

abbrev pub TheMeaningIsTold : Type 0
TheMeaningIsTold = (s : List ℕ) → ToldMeaning (cause.read_of s)

-- ## The 40-bit number and its digits determine each other

abbrev pub TheDigitsOfANumberAreWorthIt : Type 0
TheDigitsOfANumberAreWorthIt = (n : ℕ) → n ≤ 999999999999 → worth 10 48 0 (spell 10 48 12 n) ≡ n

abbrev pub TheNumberOfDigitsSpellsThem : Type 0
TheNumberOfDigitsSpellsThem = (ds : List ℕ) → length ds ≡ 12 → all_between 48 57 ds ≡ true → spell 10 48 12 (worth 10 48 0 ds) ≡ ds
