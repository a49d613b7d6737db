-- What is promised of elements as arrays of numbers. Assumes nothing.
use Rattle.std.specs.Prelude.{◌≡◌, List, ◌∷◌, ◌++◌, Bool, true, ℕ, ◌≤◌, length, get_or, take, drop, replicate}
use Rattle.gcc.specs.MessageType as message-type
use Rattle.gcc.specs.CallReference as call-reference
use Rattle.gcc.specs.CallState as call-state
use Rattle.gcc.specs.Cause as cause
use Rattle.gcc.specs.Originator as originator
use Rattle.gcc.specs.StateAttributes as state-attributes
use Rattle.gcc.specs.Sms as sms
use Rattle.gcc.specs.Talker as talker
use Rattle.gcc.specs.Digits as digits
use Rattle.gcc.specs.declared.message_type.Reading.{Reading as TypeRead}
use Rattle.gcc.specs.declared.message_type.Kind.{Kind}
use Rattle.gcc.specs.declared.message_type.Kind.TheVariants.{Nothing}
use Rattle.gcc.specs.declared.call_reference.Reading.{Reading as ReferenceRead}
use Rattle.gcc.specs.declared.call_reference.Priority.{Priority}
use Rattle.gcc.specs.declared.call_reference.Priority.TheVariants.{Reserved}
use Rattle.gcc.specs.declared.call_state.Reading.{Reading as StateRead}
use Rattle.gcc.specs.declared.cause.Reading.{Reading as CauseRead}
use Rattle.gcc.specs.declared.cause.Cause.{Cause}
use Rattle.gcc.specs.declared.cause.Meaning.{Meaning}
use Rattle.gcc.specs.declared.originator.Reading.{Reading as OriginatorRead}
use Rattle.gcc.specs.declared.state_attributes.Reading.{Reading as AttributesRead}
use Rattle.gcc.specs.declared.sms.Reading.{Reading as SmsRead}
use Rattle.gcc.specs.declared.talker.Reading.{Reading as TalkerRead}
use Rattle.arrays.specs.Limits.{within, octet, word}
use Rattle.gcc_numbers.specs.ElementNumbers.{fits, is_flag, type_numbers, type_most, reference_numbers, reference_most, priority_from, state_numbers, state_most, cause_numbers, cause_fits, cause_from, cause_code, originator_numbers, originator_most, attributes_numbers, attributes_most, attributes_from, sms_numbers, sms_most, sms_from, talker_numbers, talker_most}

-- ## The numbers of a refused element are all zero

-- n zeros, where the refusal number is not 0
abbrev pub ZerosIfRefused : ℕ → ℕ → List ℕ → Type 0
ZerosIfRefused n refusal numbers = (refusal ≡ 0 → ⊥) → numbers ≡ replicate n 0

abbrev pub ARefusedMessageTypeIsAllZeros : Type 0
ARefusedMessageTypeIsAllZeros = (o : ℕ) → ZerosIfRefused 2 (message-type.read_of o).refusal (type_numbers (message-type.read_of o))

abbrev pub ARefusedCallReferenceIsAllZeros : Type 0
ARefusedCallReferenceIsAllZeros = (s : List ℕ) → ZerosIfRefused 3 (call-reference.read_of s).refusal (reference_numbers (call-reference.read_of s))

abbrev pub ARefusedCallStateIsAllZeros : Type 0
ARefusedCallStateIsAllZeros = (h : ℕ) → ZerosIfRefused 1 (call-state.read_of h).refusal (state_numbers (call-state.read_of h))

abbrev pub ARefusedCauseIsAllZeros : Type 0
ARefusedCauseIsAllZeros = (s : List ℕ) → ZerosIfRefused 514 (cause.read_of s).refusal (cause_numbers (cause.read_of s))

abbrev pub ARefusedOriginatorIndicationIsAllZeros : Type 0
ARefusedOriginatorIndicationIsAllZeros = (h : ℕ) → ZerosIfRefused 1 (originator.read_of h).refusal (originator_numbers (originator.read_of h))

abbrev pub RefusedStateAttributesAreAllZeros : Type 0
RefusedStateAttributesAreAllZeros = (h : ℕ) → ZerosIfRefused 4 (state-attributes.read_of h).refusal (attributes_numbers (state-attributes.read_of h))

abbrev pub RefusedSmsIndicationsAreAllZeros : Type 0
RefusedSmsIndicationsAreAllZeros = (h : ℕ) → ZerosIfRefused 2 (sms.read_of h).refusal (sms_numbers (sms.read_of h))

abbrev pub ARefusedTalkerPriorityIsAllZeros : Type 0
ARefusedTalkerPriorityIsAllZeros = (h : ℕ) → ZerosIfRefused 1 (talker.read_of h).refusal (talker_numbers (talker.read_of h))

abbrev pub RefusedDigitsAreAllZeros : Type 0
RefusedDigitsAreAllZeros = (s : List ℕ) → ZerosIfRefused 12 (digits.read_of s).refusal (digits.read_of s).digits

-- ## An element is its numbers: they fit their n fields, and it comes back from them. Twelve digits are their own numbers

abbrev pub OwnNumbers : {A : Type 0} → ℕ → List ℕ → (List ℕ → A) → List ℕ → A → Type 0
OwnNumbers n most from ns a = (fits n most ns ≡ true) × (from ns ≡ a)

abbrev pub AMessageTypeIsItsNumbers : Type 0
AMessageTypeIsItsNumbers =
    (r : TypeRead)
    → OwnNumbers {A = Bool × Kind} 2 type_most (λ ns. (is_flag ns 0, message-type.kind_of (get_or ns 1 0))) (type_numbers r) (r.sequence, r.kind)

abbrev pub ACallReferenceIsItsNumbers : Type 0
ACallReferenceIsItsNumbers =
    (r : ReferenceRead)
    → r.reference ≤ word
    → OwnNumbers {A = ℕ × Priority} 3 reference_most (λ ns. (get_or ns 0 0, priority_from ns)) (reference_numbers r) (r.reference, r.priority)

abbrev pub ACallStateIsItsNumbers : Type 0
ACallStateIsItsNumbers = (r : StateRead) → OwnNumbers 1 state_most (λ ns. call-state.state_of (get_or ns 0 0)) (state_numbers r) r.state

-- octets, in arrays of 255 places
pub record CauseOfOctets (c : Cause) : Type 0 where
  pub count : c.count ≤ octet
  pub septets : length c.septets ≡ 255
  pub septets-held : within c.septets (replicate 255 octet) ≡ true
  pub size : c.size ≤ octet
  pub diagnostics : length c.diagnostics ≡ 255
  pub diagnostics-held : within c.diagnostics (replicate 255 octet) ≡ true

-- what was read can be written as it stands; before the cause stands what it means
abbrev pub ACauseIsItsNumbers : Type 0
ACauseIsItsNumbers =
    (r : CauseRead)
    → CauseOfOctets r.cause
    → (cause_fits (cause_numbers r) ≡ true) × ((cause_from (cause_numbers r) ≡ r.cause) × (take 2 (cause_numbers r) ≡ cause.meaning_numbers r.meaning))

abbrev pub AMeaningIsItsNumbers : Type 0
AMeaningIsItsNumbers = (m k : Meaning) → cause.meaning_numbers m ≡ cause.meaning_numbers k → m ≡ k

abbrev pub AnOriginatorIndicationIsItsNumbers : Type 0
AnOriginatorIndicationIsItsNumbers = (r : OriginatorRead) → OwnNumbers 1 originator_most (λ ns. is_flag ns 0) (originator_numbers r) r.oi

abbrev pub StateAttributesAreTheirNumbers : Type 0
StateAttributesAreTheirNumbers = (r : AttributesRead) → OwnNumbers 4 attributes_most attributes_from (attributes_numbers r) r.attributes

abbrev pub SmsIndicationsAreTheirNumbers : Type 0
SmsIndicationsAreTheirNumbers = (r : SmsRead) → OwnNumbers 2 sms_most sms_from (sms_numbers r) r.indications

abbrev pub ATalkerPriorityIsItsNumbers : Type 0
ATalkerPriorityIsItsNumbers = (r : TalkerRead) → OwnNumbers 1 talker_most (λ ns. talker.priority_of (get_or ns 0 0)) (talker_numbers r) r.priority

-- ## And numbers that the fields can hold are their element's, where they say one that is written

abbrev pub NumbersAreTheirMessageType : Type 0
NumbersAreTheirMessageType =
    (ns : List ℕ)
    → fits 2 type_most ns ≡ true
    → (message-type.kind_of (get_or ns 1 0) ≡ Nothing → ⊥)
    → type_numbers (record { refusal = 0; sequence = is_flag ns 0; kind = message-type.kind_of (get_or ns 1 0) }) ≡ ns

abbrev pub NumbersAreTheirCallReference : Type 0
NumbersAreTheirCallReference =
    (ns : List ℕ)
    → fits 3 reference_most ns ≡ true
    → (priority_from ns ≡ Reserved → ⊥)
    → reference_numbers (record { refusal = 0; reference = get_or ns 0 0; priority = priority_from ns }) ≡ ns

abbrev pub NumbersAreTheirCallState : Type 0
NumbersAreTheirCallState =
    (ns : List ℕ) → fits 1 state_most ns ≡ true → state_numbers (record { refusal = 0; state = call-state.state_of (get_or ns 0 0) }) ≡ ns

abbrev pub NumbersAreTheirCause : Type 0
NumbersAreTheirCause =
    (ns : List ℕ) (m : Meaning)
    → cause_fits ns ≡ true
    → cause_numbers (record { refusal = 0; meaning = m; cause = cause_from ns }) ≡ cause.meaning_numbers m ++ drop 2 ns

-- what a cause means is not looked at where an array is written
abbrev pub TheMeaningIsNotLookedAt : Type 0
TheMeaningIsNotLookedAt =
    (a b x y n : ℕ) (ns : List ℕ)
    → (cause_code (a ∷ b ∷ ns) n ≡ cause_code (x ∷ y ∷ ns) n)
    × ((cause_fits (a ∷ b ∷ ns) ≡ cause_fits (x ∷ y ∷ ns)) × (cause_from (a ∷ b ∷ ns) ≡ cause_from (x ∷ y ∷ ns)))

abbrev pub NumbersAreTheirOriginatorIndication : Type 0
NumbersAreTheirOriginatorIndication =
    (ns : List ℕ) → fits 1 originator_most ns ≡ true → originator_numbers (record { refusal = 0; oi = is_flag ns 0 }) ≡ ns

abbrev pub NumbersAreTheirStateAttributes : Type 0
NumbersAreTheirStateAttributes =
    (ns : List ℕ) → fits 4 attributes_most ns ≡ true → attributes_numbers (record { refusal = 0; attributes = attributes_from ns }) ≡ ns

abbrev pub NumbersAreTheirSmsIndications : Type 0
NumbersAreTheirSmsIndications = (ns : List ℕ) → fits 2 sms_most ns ≡ true → sms_numbers (record { refusal = 0; indications = sms_from ns }) ≡ ns

abbrev pub NumbersAreTheirTalkerPriority : Type 0
NumbersAreTheirTalkerPriority =
    (ns : List ℕ) → fits 1 talker_most ns ≡ true → talker_numbers (record { refusal = 0; priority = talker.priority_of (get_or ns 0 0) }) ≡ ns
