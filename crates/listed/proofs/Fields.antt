-- Every field of an answer, in order, so that one test compares two answers whole. Assumes nothing.
use mathlib.Core.List.{List, [], ◌∷◌, ◌++◌, map}
use mathlib.Core.Bool.{Bool, true, false, not}
use mathlib.Core.Logic.{◌⊎◌, inl as number, inr as flag}
use Prim.Native.Nat.{ℕ, zero, suc}
use lib.Dec.{eqb}
use Rattle.bits.specs.Field.{both}
use Rattle.call.specs.declared.Call.{Call}
use Rattle.call.specs.declared.Description.{Description}
use Rattle.nch.specs.declared.Reduced.{Reduced}
use Rattle.nch.specs.declared.Random.{Random}
use Rattle.nch.specs.declared.Release6.{Release6}
use Rattle.nch.specs.declared.Release7.{Release7}
use Rattle.nch.specs.declared.Notification.{Notification}
use Rattle.nch.specs.declared.Reading.{Reading}
use Rattle.receiver.specs.declared.Common.{Common}
use Rattle.receiver.specs.declared.Record.{Record}
use Rattle.receiver.specs.declared.Slot.{Slot}
use Rattle.receiver.specs.declared.Receiver.{Receiver}
use Rattle.receiver.specs.declared.Told.{Told}
use Rattle.receiver.specs.declared.Answer.{Answer}
use Rattle.receiver.specs.declared.Paged.{Paged}
use Rattle.gcc.specs.declared.cause.Meaning.{Meaning}
use Rattle.gcc.specs.declared.cause.Meaning.TheVariants.{Nothing, Specific, Unspecific}
use Rattle.gcc.specs.declared.cause.Reading.{Reading as CauseReading}
use Rattle.gcc.specs.declared.digits.Reading.{Reading as DigitsReading}

-- ## One test for all

-- a field is a number or a flag; a struct is a list of fields, 1 deep; an answer is arrays of structs, 3 deep, where a lone struct is an array of one
abbrev pub Nested : ℕ → Type 0
Nested zero = ℕ ⊎ Bool
Nested (suc n) = List (Nested n)

abbrev pub same_flag : Bool → Bool → Bool
same_flag true b = b
same_flag false b = not b

abbrev pub same_field : Nested 0 → Nested 0 → Bool
same_field (number m) (number n) = eqb m n
same_field (flag a) (flag b) = same_flag a b
same_field (number m) (flag b) = false
same_field (flag a) (number n) = false

abbrev pub pairwise : {A : Type 0} → (A → A → Bool) → List A → List A → Bool
pairwise t [] [] = true
pairwise t [] (b ∷ m) = false
pairwise t (a ∷ l) [] = false
pairwise t (a ∷ l) (b ∷ m) = both (t a b) (pairwise t l m)

abbrev pub same : Nested 3 → Nested 3 → Bool
same = pairwise (pairwise (pairwise same_field))

abbrev pub alone : Nested 1 → Nested 2
alone s = s ∷ []

abbrev pub numbers : List ℕ → Nested 2
numbers l = alone (map number l)

-- ## What `nch::read` answers

abbrev pub of_description : Description → Nested 1
of_description d = number d.channel ∷ flag d.hopping ∷ flag d.shortlist ∷ number d.length ∷ number d.frequencies ∷ []

abbrev pub of_call : Call → Nested 1
of_call c =
    number c.reference
    ∷ flag c.vgcs
    ∷ flag c.acknowledged
    ∷ number c.priority
    ∷ number c.cipher
    ∷ flag c.hasDescription
    ∷ of_description c.description

abbrev pub of_reduced : Reduced → Nested 1
of_reduced r = number r.reference ∷ flag r.vgcs ∷ []

abbrev pub of_random : Random → Nested 1
of_random r = flag r.segment ∷ flag r.hasRandom ∷ number r.rand ∷ []

abbrev pub of_release6 : Release6 → Nested 1
of_release6 r = flag r.hasRelease ∷ flag r.hasCount ∷ number r.cellcount ∷ number r.reducedcount ∷ number r.randomcount ∷ []

abbrev pub of_release7 : Release7 → Nested 1
of_release7 r =
    flag r.hasRelease
    ∷ number r.markcount
    ∷ flag r.hasUplink
    ∷ flag r.uplink
    ∷ flag r.hasAmr
    ∷ flag r.hasFullrate
    ∷ number r.fullrate
    ∷ flag r.hasHalfrate
    ∷ number r.halfrate
    ∷ flag r.hasSms
    ∷ flag r.confidential
    ∷ flag r.private
    ∷ map flag r.marks

abbrev pub of_notification : Notification → Nested 3
of_notification m =
    alone (flag m.hasNln ∷ number m.nln ∷ number m.callcount ∷ [])
    ∷ map of_call m.calls
    ∷ alone (of_release6 m.release6)
    ∷ map of_reduced m.release6.reduced
    ∷ map of_random m.release6.randoms
    ∷ alone (of_release7 m.release7)
    ∷ []

abbrev pub of_reading : Reading → Nested 3
of_reading r = alone (number r.refusal.number ∷ number r.refusal.bit ∷ number r.used ∷ []) ∷ of_notification r.«record»

-- ## What an event is answered

abbrev pub of_common : Common → Nested 1
of_common c =
    flag c.hasCount
    ∷ number c.cellcount
    ∷ flag c.b22
    ∷ flag c.hasUplink
    ∷ flag c.uplink
    ∷ flag c.hasAmr
    ∷ flag c.hasFullrate
    ∷ number c.fullrate
    ∷ flag c.hasHalfrate
    ∷ number c.halfrate
    ∷ flag c.hasSms
    ∷ flag c.confidential
    ∷ flag c.private
    ∷ []

abbrev pub of_record : Record → Nested 1
of_record r =
    flag r.full
    ∷ flag r.hasSegment
    ∷ flag r.segment
    ∷ flag r.hasRandom
    ∷ number r.rand
    ∷ flag r.emergency
    ∷ of_call r.call
    ++ of_common r.common

abbrev pub of_told : Told → Nested 1
of_told t = number t.key ∷ number t.number ∷ number t.follow ∷ number t.kept ∷ of_record t.«record»

abbrev pub of_slot : Slot → Nested 1
of_slot s = number s.half ∷ number s.since ∷ of_record s.«record»

abbrev pub of_receiver : Receiver → Nested 3
of_receiver r =
    map of_slot r.slots ∷ numbers r.keys ∷ numbers (r.tick ∷ r.t3206 ∷ r.t3208 ∷ r.t3210 ∷ r.cell.nln ∷ r.keycount ∷ r.cell.count ∷ r.cell.bit ∷ [])
    ∷ numbers r.sets ∷ []

abbrev pub of_paged : Paged → Nested 1
of_paged p =
    flag p.there ∷ number p.page.identityLength ∷ number p.page.identityFirst ∷ number p.page.identityRest ∷ number p.page.channelFirst
    ∷ flag p.page.hasPriority ∷ number p.page.priority ∷ flag p.hasCause ∷ flag p.cause ∷ []

abbrev pub of_answer : Answer → Nested 3
of_answer a =
    numbers (a.refusal.number ∷ a.refusal.bit ∷ a.expired ∷ a.dropped ∷ a.count ∷ [])
    ∷ map of_told a.entries
    ∷ alone (of_paged a.paged)
    ∷ of_receiver a.receiver

-- ## What `gcc::cause::read` and `gcc::digits::read` answer

abbrev pub of_meaning : Meaning → Nested 1
of_meaning Nothing = []
of_meaning (Specific n) = number n ∷ []
of_meaning Unspecific = flag true ∷ []

abbrev pub of_cause : CauseReading → Nested 3
of_cause r =
    numbers (r.refusal ∷ r.cause.count ∷ r.cause.size ∷ [])
    ∷ alone (of_meaning r.meaning)
    ∷ numbers r.cause.septets
    ∷ numbers r.cause.diagnostics
    ∷ []

abbrev pub of_digits : DigitsReading → Nested 3
of_digits r = numbers (r.refusal ∷ []) ∷ numbers r.digits ∷ []
