-- The elements of 44.068 as arrays of numbers, in the order of include/asternhaken.h. Assumes nothing.
use Rattle.std.specs.Prelude.{List, [], ◌∷◌, ◌++◌, Bool, not, ℕ, ◌+◌, ◌*◌, ◌/◌, ◌%◌, length, get_or, take, drop, replicate, leb, eqb}
use Rattle.bits.specs.Field.{both, pick}
use Rattle.csn1.specs.Told.{as_bit}
use Rattle.gcc.specs.MessageType as message-type
use Rattle.gcc.specs.CallReference as call-reference
use Rattle.gcc.specs.CallState as call-state
use Rattle.gcc.specs.Cause as cause
use Rattle.gcc.specs.Talker as talker
use Rattle.gcc.specs.declared.message_type.Reading.{Reading as TypeRead}
use Rattle.gcc.specs.declared.call_reference.Reading.{Reading as ReferenceRead}
use Rattle.gcc.specs.declared.call_reference.Priority.{Priority}
use Rattle.gcc.specs.declared.call_state.Reading.{Reading as StateRead}
use Rattle.gcc.specs.declared.cause.Reading.{Reading as CauseRead}
use Rattle.gcc.specs.declared.cause.Cause.{Cause}
use Rattle.gcc.specs.declared.originator.Reading.{Reading as OriginatorRead}
use Rattle.gcc.specs.declared.state_attributes.Reading.{Reading as AttributesRead}
use Rattle.gcc.specs.declared.state_attributes.Attributes.{Attributes}
use Rattle.gcc.specs.declared.sms.Reading.{Reading as SmsRead}
use Rattle.gcc.specs.declared.sms.Indications.{Indications}
use Rattle.gcc.specs.declared.talker.Reading.{Reading as TalkerRead}
use Rattle.arrays.specs.Limits.{within, flag, octet, word}

-- ## Writing: 13 for another length than n, 12 for a number that its field cannot hold, then the writer's own number

abbrev pub fits : ℕ → List ℕ → List ℕ → Bool
fits n most ns = both (eqb (length ns) n) (within ns most)

abbrev pub code_for : ℕ → List ℕ → List ℕ → ℕ → ℕ
code_for n most ns own = pick (eqb (length ns) n) (pick (within ns most) own 12) 13

abbrev pub is_flag : List ℕ → ℕ → Bool
is_flag ns k = eqb (get_or ns k 0) 1

-- ## Message type: send sequence number, message type

abbrev pub type_numbers : TypeRead → List ℕ
type_numbers r = as_bit r.sequence ∷ message-type.number_of r.kind ∷ []

abbrev pub type_most : List ℕ
type_most = flag ∷ octet ∷ []

-- ## Call reference: reference, priority there, priority

abbrev pub reference_numbers : ReferenceRead → List ℕ
reference_numbers r =
    r.reference ∷ call-reference.number_of r.priority / 16 ∷ call-reference.number_of r.priority / 2 % 8 ∷ []

-- the flag and the code, where the spare bits are zero
abbrev pub priority_from : List ℕ → Priority
priority_from ns = call-reference.priority_of (16 * get_or ns 1 0 + 2 * get_or ns 2 0)

abbrev pub reference_most : List ℕ
reference_most = word ∷ flag ∷ 7 ∷ []

-- ## Call state

abbrev pub state_numbers : StateRead → List ℕ
state_numbers r = call-state.number_of r.state ∷ []

abbrev pub state_most : List ℕ
state_most = 12 ∷ []

-- ## Cause: what it means, in two numbers that no writer looks at; how many septets, the septets, how many diagnostics, the diagnostics

abbrev pub cause_numbers : CauseRead → List ℕ
cause_numbers r =
    cause.meaning_numbers r.meaning ++ ((r.cause.count ∷ r.cause.septets) ++ (r.cause.size ∷ r.cause.diagnostics))

-- where they stand, and how many there are
abbrev pub kind_at : ℕ
kind_at = 0

abbrev pub count_at : ℕ
count_at = kind_at + 2

abbrev pub septets_at : ℕ
septets_at = count_at + 1

abbrev pub size_at : ℕ
size_at = septets_at + 255

abbrev pub diagnostics_at : ℕ
diagnostics_at = size_at + 1

abbrev pub cause_length : ℕ
cause_length = diagnostics_at + 255

-- the largest of those that a writer looks at
unfoldable pub cause_most : List ℕ
cause_most = replicate 512 octet

abbrev pub cause_holds : List ℕ → Bool
cause_holds ns = within (drop count_at ns) cause_most

abbrev pub cause_fits : List ℕ → Bool
cause_fits ns = both (eqb (length ns) cause_length) (cause_holds ns)

abbrev pub cause_from : List ℕ → Cause
cause_from ns =
    record {
      count = get_or ns count_at 0;
      septets = take 255 (drop septets_at ns);
      size = get_or ns size_at 0;
      diagnostics = take 255 (drop diagnostics_at ns);
    }

-- no septet, or over 255 octets
abbrev pub wrong_length : ℕ → ℕ → Bool
wrong_length count size = not (both (leb 1 count) (leb (count + size) 255))

-- 13 for another length; the writer's own number where every number fits its field; else 13 or 12, in the writer's order
abbrev pub cause_code : List ℕ → ℕ → ℕ
cause_code ns size =
    pick (eqb (length ns) cause_length)
    (pick (cause_holds ns) (cause.write_number (cause_from ns) size) (pick (wrong_length (get_or ns count_at 0) (get_or ns size_at 0)) 13 12))
    13

-- ## Half octets

abbrev pub originator_numbers : OriginatorRead → List ℕ
originator_numbers r = as_bit r.oi ∷ []

abbrev pub originator_most : List ℕ
originator_most = flag ∷ []

abbrev pub attributes_numbers : AttributesRead → List ℕ
attributes_numbers r =
    as_bit r.attributes.da ∷ as_bit r.attributes.ua ∷ as_bit r.attributes.comm ∷ as_bit r.attributes.oi ∷ []

abbrev pub attributes_most : List ℕ
attributes_most = flag ∷ flag ∷ flag ∷ flag ∷ []

abbrev pub attributes_from : List ℕ → Attributes
attributes_from ns = record { da = is_flag ns 0; ua = is_flag ns 1; comm = is_flag ns 2; oi = is_flag ns 3 }

abbrev pub sms_numbers : SmsRead → List ℕ
sms_numbers r = as_bit r.indications.dc ∷ as_bit r.indications.gp ∷ []

abbrev pub sms_most : List ℕ
sms_most = flag ∷ flag ∷ []

abbrev pub sms_from : List ℕ → Indications
sms_from ns = record { dc = is_flag ns 0; gp = is_flag ns 1 }

abbrev pub talker_numbers : TalkerRead → List ℕ
talker_numbers r = talker.number_of r.priority ∷ []

abbrev pub talker_most : List ℕ
talker_most = 2 ∷ []

-- ## Digits

abbrev pub digits_most : List ℕ
digits_most = replicate 12 octet
