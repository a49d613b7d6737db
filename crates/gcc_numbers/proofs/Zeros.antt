-- The numbers of a refused element are all zero, by the tests that its reader makes. Assumes nothing.
use mathlib.Core.Path.{refl}
use mathlib.Core.List.{List}
use mathlib.Core.Bool.{Bool, true, false}
use mathlib.Core.Option.{Option, none, some}
use Prim.Native.Nat.{ℕ, ◌+◌, ◌*◌, ◌/◌, ◌%◌}
use lib.ListN.{length}
use lib.Dec.{leb, eqb}
use Rattle.bits.specs.Field.{pick}
use Rattle.gcc.specs.Octet.{is_set}
use Rattle.gcc.specs.Numeral.{worth, spell}
use Rattle.gcc.specs.MessageType as message-type
use Rattle.gcc.specs.CallReference as call-reference
use Rattle.gcc.specs.CallState as call-state
use Rattle.gcc.specs.Cause as cause
use Rattle.gcc.specs.Originator as originator
use Rattle.gcc.specs.StateAttributes as state-attributes
use Rattle.gcc.specs.Sms as sms
use Rattle.gcc.specs.Talker as talker
use Rattle.gcc.specs.Digits as digits
use Rattle.gcc.specs.declared.message_type.Reading.{Reading as TypeRead}
use Rattle.gcc.specs.declared.message_type.Kind.{Kind}
use Rattle.gcc.specs.declared.message_type.Kind.TheVariants.{Nothing}
use Rattle.gcc.specs.declared.call_state.State.TheVariants.{U0}
use Rattle.gcc.specs.declared.talker.Priority.TheVariants.{Normal}
use Rattle.gcc.specs.declared.call_reference.Reading.{Reading as ReferenceRead}
use Rattle.gcc.specs.declared.call_state.Reading.{Reading as StateRead}
use Rattle.gcc.specs.declared.cause.Reading.{Reading as CauseRead}
use Rattle.gcc.specs.declared.originator.Reading.{Reading as OriginatorRead}
use Rattle.gcc.specs.declared.state_attributes.Reading.{Reading as AttributesRead}
use Rattle.gcc.specs.declared.sms.Reading.{Reading as SmsRead}
use Rattle.gcc.specs.declared.talker.Reading.{Reading as TalkerRead}
use Rattle.gcc.specs.declared.digits.Reading.{Reading as DigitsRead}
use Rattle.gcc_numbers.specs.ElementNumbers.{type_numbers, reference_numbers, state_numbers, cause_numbers, originator_numbers, attributes_numbers, sms_numbers, talker_numbers}
use Rattle.gcc_numbers.specs.Promises as promises

-- a choice keeps what both sides keep
either : {A : Type 0} (P : A → Type 0) (b : Bool) (x y : A) → P x → P y → P (pick b x y)
either P true x y p q = p
either P false x y p q = q

abbrev TypeZeros : TypeRead → Type 0
TypeZeros r = promises.ZerosIfRefused 2 r.refusal (type_numbers r)

pub a_refused_message_type_is_all_zeros : promises.ARefusedMessageTypeIsAllZeros
unfolding message-type.read_of
a_refused_message_type_is_all_zeros o =
    let k : Kind = message-type.kind_of (o / 128 * 128 + o % 64) in
    either TypeZeros (eqb (message-type.number_of k) 0) (record { refusal = 12; sequence = false; kind = Nothing })
    (record { refusal = 0; sequence = is_set 7 o; kind = k }) (λ g. refl) (λ g. absurd (g refl))

abbrev ReferenceZeros : ReferenceRead → Type 0
ReferenceZeros r = promises.ZerosIfRefused 3 r.refusal (reference_numbers r)

pub a_refused_call_reference_is_all_zeros : promises.ARefusedCallReferenceIsAllZeros
unfolding call-reference.read_of
a_refused_call_reference_is_all_zeros s =
    let n : ℕ = worth 256 0 0 s in
    either ReferenceZeros (eqb (length s) 4) (call-reference.told n) (call-reference.refused 13)
    (either ReferenceZeros (leb (n / 32) 99999999)
    (record { refusal = 0; reference = n / 32; priority = call-reference.priority_of (call-reference.without_spare n % 32) }) (call-reference.refused 4) (λ g. absurd (g refl)) (λ g. refl))
    (λ g. refl)

abbrev StateZeros : StateRead → Type 0
StateZeros r = promises.ZerosIfRefused 1 r.refusal (state_numbers r)

pub a_refused_call_state_is_all_zeros : promises.ARefusedCallStateIsAllZeros
unfolding call-state.read_of
a_refused_call_state_is_all_zeros h =
    either StateZeros (leb h 15) (record { refusal = 0; state = call-state.state_of h }) (record { refusal = 12; state = U0 }) (λ g. absurd (g refl)) (λ g. refl)

abbrev CauseZeros : CauseRead → Type 0
CauseZeros r = promises.ZerosIfRefused 514 r.refusal (cause_numbers r)

told-zero : (o : Option (List ℕ × List ℕ)) → CauseZeros (cause.told o)
told-zero none = λ g. refl
told-zero (some (l, d)) = λ g. absurd (g refl)

pub a_refused_cause_is_all_zeros : promises.ARefusedCauseIsAllZeros
unfolding cause.read_of
a_refused_cause_is_all_zeros s = either CauseZeros (leb (length s) 255) (cause.told (cause.parse s)) (cause.refused 13) (told-zero (cause.parse s)) (λ g. refl)

abbrev OriginatorZeros : OriginatorRead → Type 0
OriginatorZeros r = promises.ZerosIfRefused 1 r.refusal (originator_numbers r)

pub a_refused_originator_indication_is_all_zeros : promises.ARefusedOriginatorIndicationIsAllZeros
unfolding originator.read_of
a_refused_originator_indication_is_all_zeros h = either OriginatorZeros (leb h 15) (record { refusal = 0; oi = is_set 1 h }) (record { refusal = 12; oi = false }) (λ g. absurd (g refl)) (λ g. refl)

abbrev AttributesZeros : AttributesRead → Type 0
AttributesZeros r = promises.ZerosIfRefused 4 r.refusal (attributes_numbers r)

pub refused_state_attributes_are_all_zeros : promises.RefusedStateAttributesAreAllZeros
unfolding state-attributes.read_of
refused_state_attributes_are_all_zeros h =
    either AttributesZeros (leb h 15) (record { refusal = 0; attributes = state-attributes.attributes_of h })
    (record { refusal = 12; attributes = record { da = false; ua = false; comm = false; oi = false } }) (λ g. absurd (g refl)) (λ g. refl)

abbrev SmsZeros : SmsRead → Type 0
SmsZeros r = promises.ZerosIfRefused 2 r.refusal (sms_numbers r)

pub refused_sms_indications_are_all_zeros : promises.RefusedSmsIndicationsAreAllZeros
unfolding sms.read_of
refused_sms_indications_are_all_zeros h =
    either SmsZeros (leb h 15) (record { refusal = 0; indications = record { dc = is_set 2 h; gp = is_set 1 h } })
    (record { refusal = 12; indications = record { dc = false; gp = false } }) (λ g. absurd (g refl)) (λ g. refl)

abbrev TalkerZeros : TalkerRead → Type 0
TalkerZeros r = promises.ZerosIfRefused 1 r.refusal (talker_numbers r)

pub a_refused_talker_priority_is_all_zeros : promises.ARefusedTalkerPriorityIsAllZeros
unfolding talker.read_of
a_refused_talker_priority_is_all_zeros h =
    either TalkerZeros (leb h 15) (record { refusal = 0; priority = talker.priority_of (h % 8) }) (record { refusal = 12; priority = Normal }) (λ g. absurd (g refl)) (λ g. refl)

abbrev DigitsZeros : DigitsRead → Type 0
DigitsZeros r = promises.ZerosIfRefused 12 r.refusal r.digits

pub refused_digits_are_all_zeros : promises.RefusedDigitsAreAllZeros
unfolding digits.read_of
refused_digits_are_all_zeros s =
    let n : ℕ = worth 256 0 0 s in
    either DigitsZeros (eqb (length s) 5) (digits.told n) (digits.refused 13)
    (either DigitsZeros (leb n 999999999999) (record { refusal = 0; digits = spell 10 48 12 n }) (digits.refused 12) (λ g. absurd (g refl)) (λ g. refl))
    (λ g. refl)
