-- NT/N Rest Octets (44.018, 10.5.2.22c) as one grammar term. Assumes nothing.
use Rattle.std.specs.Prelude.{List, [], ◌∷◌, Bool, ℕ, ◌+◌, length, leb, eqb}
use Rattle.std.proofs.Math.Option.{Option, none, some}
use Rattle.bits.specs.Field.{pick}
use Rattle.csn1.specs.Format.{Res, bad, ground, Format}
use Rattle.csn1.specs.Grammar.{Grammar, number, numbers, ◌and◌, flagged, listed, later, refuse, inside, format}
use Rattle.csn1.specs.Told.{is_there}
use Rattle.call.specs.Call.{CallValue, group_call_reference, cipher_key_number, group_channel_description, call_grammar, low_reference}

-- Each part of a value has a name, beside the line of the grammar that reads it and in its order.

-- ## The releases, from the bit behind the H on: bits that run out inside Release 6 are 14, and inside Release 7 they are 15

-- <Reduced GCR: bit (28)>: the reference and the service flag, as in a call's whole reference
abbrev pub reduced : Grammar (List ℕ)
reduced = refuse 4 low_reference (numbers (27 ∷ 1 ∷ []))

-- <Segment Id: bit> {0 | 1 <VSTK_RAND: bit (36)>}
abbrev pub random : Grammar (ℕ × Option ℕ)
random = number 1 and flagged (number 36)

abbrev pub segment_id : ℕ × Option ℕ → ℕ
segment_id v = v.0

abbrev pub vstk_rand : ℕ × Option ℕ → Option ℕ
vstk_rand v = v.1

abbrev pub Release6Value : Type 0
Release6Value = Option ℕ × (List (List ℕ) × List (ℕ × Option ℕ))

-- {0 | 1 <CELL_GLOBAL_COUNT: bit (2)>} <List of Reduced GCR> <List of VSTK_RAND information>
abbrev pub release6 : Grammar Release6Value
release6 = inside 14 (flagged (number 2) and listed reduced and listed random)

abbrev pub cell_global_count : Release6Value → Option ℕ
cell_global_count v = v.0

abbrev pub reduced_references : Release6Value → List (List ℕ)
reduced_references v = v.1.0

abbrev pub random_entries : Release6Value → List (ℕ × Option ℕ)
random_entries v = v.1.1

abbrev pub AmrValue : Type 0
AmrValue = Option ℕ × Option ℕ

-- {0|1 <FR AMR Config: bit(4)>} {0|1 <HR AMR Config: bit(4)>}
abbrev pub amr : Grammar AmrValue
amr = flagged (number 4) and flagged (number 4)

abbrev pub fr_amr_config : AmrValue → Option ℕ
fr_amr_config a = a.0

abbrev pub hr_amr_config : AmrValue → Option ℕ
hr_amr_config a = a.1

-- <SMS Data Confidentiality Ind: bit(1)> <SMS Guaranteed Privacy Ind: bit(1)>
abbrev pub sms_bits : Grammar (ℕ × ℕ)
sms_bits = number 1 and number 1

abbrev pub data_confidentiality : ℕ × ℕ → ℕ
data_confidentiality s = s.0

abbrev pub guaranteed_privacy : ℕ × ℕ → ℕ
guaranteed_privacy s = s.1

abbrev pub Release7Value : Type 0
Release7Value = List ℕ × (Option ℕ × (Option AmrValue × Option (ℕ × ℕ)))

-- <List of Emergency information>
-- {0 | 1 <Priority Uplink access: bit(1)>}
-- {0 | 1 {0|1 <FR AMR Config: bit(4)>} {0|1 <HR AMR Config: bit(4)>}}
-- {0 | 1 <SMS Data Confidentiality Ind: bit(1)> <SMS Guaranteed Privacy Ind: bit(1)>}
abbrev pub release7 : Grammar Release7Value
release7 = inside 15 (listed (number 1) and flagged (number 1) and flagged amr and flagged sms_bits)

abbrev pub emergency_marks : Release7Value → List ℕ
emergency_marks v = v.0

abbrev pub uplink_access : Release7Value → Option ℕ
uplink_access v = v.1.0

abbrev pub amr_part : Release7Value → Option AmrValue
amr_part v = v.1.1.0

abbrev pub sms_part : Release7Value → Option (ℕ × ℕ)
sms_part v = v.1.1.1

-- ## The whole

abbrev pub Value : Type 0
Value = Option ℕ × (List CallValue × (Option Release6Value × Option Release7Value))

-- {0 | 1 <NLN(NCH): bit (2)>} <List of Group Call NCH information> {null | L | H <Release 6>} {null | L | H <Release 7>} <Spare padding>
abbrev pub rest_parts : Grammar Value
rest_parts = flagged (number 2) and listed call_grammar and later release6 and later release7

abbrev pub nln_part : Value → Option ℕ
nln_part v = v.0

abbrev pub call_list : Value → List CallValue
call_list v = v.1.0

abbrev pub release6_part : Value → Option Release6Value
release6_part v = v.1.1.0

abbrev pub release7_part : Value → Option Release7Value
release7_part v = v.1.1.1

-- ## What is counted once all is read

abbrev pub count : {A : Type 0} → (A → Bool) → List A → ℕ
count t [] = 0
count t (a ∷ l) = pick (t a) (1 + count t l) (count t l)

abbrev pub ciphered_value : CallValue → Bool
ciphered_value c = leb 1 (cipher_key_number (group_call_reference c))

abbrev pub described_value : CallValue → Bool
described_value c = is_there (group_channel_description c)

abbrev pub reduceds_in : Option Release6Value → List (List ℕ)
reduceds_in none = []
reduceds_in (some r) = reduced_references r

abbrev pub randoms_in : Option Release6Value → List (ℕ × Option ℕ)
randoms_in none = []
randoms_in (some r) = random_entries r

abbrev pub marks_in : Option Release7Value → List ℕ
marks_in none = []
marks_in (some r) = emergency_marks r

-- refusal 6: no more random entries than ciphered calls, and reduced references all count as ciphered
abbrev pub randoms_fit : Value → Bool
randoms_fit v = leb (length (randoms_in (release6_part v))) (count ciphered_value (call_list v) + length (reduceds_in (release6_part v)))

-- refusal 7: no more emergency marks than calls with a description
abbrev pub marks_fit : Value → Bool
marks_fit v = leb (length (marks_in (release7_part v))) (count described_value (call_list v))

abbrev pub rest_octets : Grammar Value
rest_octets = refuse 7 marks_fit (refuse 6 randoms_fit rest_parts)

unfoldable pub notification : Format Value
notification = format rest_octets

-- refusal 1: 20 octets, no more and no fewer
abbrev pub read_octets : List ℕ → Res Value
read_octets s = pick (eqb (length s) 20) (notification.read s 0) (bad (ground 1))
