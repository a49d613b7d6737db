-- What is promised of the receiver (demand 3, and the identity of refused events). The paper's figures are written out here, not by the receiver's names for them.
-- Assumes nothing.
use Rattle.std.specs.Prelude.{◌≡◌, List, [], ◌∷◌, ◌++◌, Bool, true, false, not, ℕ, zero, suc, ◌+◌, ◌*◌, ◌/◌, ◌%◌, ◌^◌, ◌<◌, ◌≤◌, length, take, get_or, ltb, eqb}
use Rattle.std.proofs.Math.Option.{Option, none, some}
use Rattle.bits.specs.Field.{both, pick}
use Rattle.csn1.specs.Told.{as_bit}
use Rattle.call.specs.declared.Call.{Call}
use Rattle.nch.specs.Told.{read_of}
use Rattle.facch.specs.Told.{read_of as readFacch}
use Rattle.pch.specs.Entry.{read_of as readPch}
use Rattle.receiver.specs.declared.Record.{Record}
use Rattle.receiver.specs.declared.Receiver.{Receiver}
use Rattle.receiver.specs.declared.Slot.{Slot}
use Rattle.receiver.specs.declared.Told.{Told}
use Rattle.receiver.specs.declared.Answer.{Answer}
use Rattle.receiver.specs.declared.Setup.{Setup}
use Rattle.receiver.specs.Channels.{place_on, Channel, onPch, number_of}
use Rattle.receiver.specs.Halving.{first_of}
use Rattle.receiver.specs.Model.{no_record, empty_slot, wrap_sub, key_of, keys_of, index_of, is_held, swept_slots, is_ciphered, agree, joined_of, keep, started_of}
use Rattle.receiver.specs.declared.Cell.{Cell}
use Rattle.receiver.specs.Count.{holds}
use Rattle.receiver.specs.Entries.{paged_of}
use Rattle.receiver.specs.Step.{no_told, Event, Happening, heardNch, heardFacch, heard_pch, joins, moves, bit_is, passes, facch, refusal_of, rule_of, step_of}
use Rattle.isolation.specs.One.{kind_on, Which, theFirst, theSecond, Half, One, Said, Seen, seen, sees, sight_of}
use Rattle.isolation.specs.One.{held_after_of, spared, passed, step_said, saying, known_then, run_one, run_each, one_after, fresh, hears}
use Rattle.isolation.specs.Calls.{timer_of, subscribed, not_ours_of, set_under, last_tick, known_on, Reply, reply_by, channel_in}
use Rattle.isolation.specs.History.{Moment, until_entry, past_of, Opposite, CameAndStayed}
use Rattle.isolation.specs.Kept.{since, last_bit, kept_count}
use Rattle.isolation.specs.Subscriptions.{Within, blanked}

-- ## 1. Isolation

-- the answers under a key among the told entries
unfoldable pub under : ℕ → List Told → List Said
under key [] = []
under key (t ∷ ts) = pick (eqb t.key key) (record { number = t.number; told = t.«record»; follow = t.follow; kept = t.kept } ∷ under key ts) (under key ts)

-- an event's answers are on the channel of its message, by the one-call receiver's own table
unfoldable pub answers_on : ℕ → Channel → Event → Answer → List Said
answers_on key c e a = pick (hears c (channel_in e)) (under key (take a.count a.entries)) []

unfoldable pub answers : ℕ → Channel → Receiver → List Event → List Said
answers key c r [] = []
answers key c r (e ∷ es) = answers_on key c e (step_of r e) ++ answers key c (step_of r e).receiver es

-- the same with the answers to each event in a list of their own
unfoldable pub answers_each : ℕ → Channel → Receiver → List Event → List (List Said)
answers_each key c r [] = []
answers_each key c r (e ∷ es) = answers_on key c e (step_of r e) ∷ answers_each key c (step_of r e).receiver es

-- every tick is a number of 32 bits
abbrev pub Ticks : List Event → Type 0
Ticks [] = Unit {0}
Ticks (e ∷ es) = (e.tick < 4294967296) × Ticks es

-- For every accepted setup, every list of events, every subscribed key and every channel: the answers under that key on that channel are
-- exactly those of the one-call receiver run on what that call sees.
abbrev pub NoCallDisturbsAnother : Type 0
NoCallDisturbsAnother =
    (s : Setup) (keys groups : List ℕ)
    → s.tick < 4294967296
    → (started_of s keys groups).refusal.number ≡ 0
    → (key : ℕ)
    → first_of keys key < length keys
    → (c : Channel) (es : List Event)
    → Ticks es
    → answers key c (started_of s keys groups).receiver es ≡ run_one key c (timer_of c s) (set_under keys groups key) fresh (seen key c s.tick es)

-- The same event by event: no answer may stand at another event than its own.
abbrev pub NoCallDisturbsAnotherAtAnyEvent : Type 0
NoCallDisturbsAnotherAtAnyEvent =
    (s : Setup) (keys groups : List ℕ)
    → s.tick < 4294967296
    → (started_of s keys groups).refusal.number ≡ 0
    → (key : ℕ)
    → first_of keys key < length keys
    → (c : Channel) (es : List Event)
    → Ticks es
    → answers_each key c (started_of s keys groups).receiver es ≡ run_each key c (timer_of c s) (set_under keys groups key) fresh s.tick es

-- ## 2. When the one-call receiver joins

-- where h is held, the entry is a half, the opposite one is held and has not run out, and their references agree
pub record OppositeHeld (c : Channel) (timer : ℕ) (h : Option Half) (e : Record) : Type 0 where
  pub half : Half
  pub held : h ≡ some half
  pub young : half.age < timer
  pub opposite : Opposite (kind_on c e) half.which
  pub agrees : agree half.entry e ≡ true

-- everything from the first half, VSTK_RAND from the second, whichever of the two is held
abbrev pub joined_with : Half → Record → Record
joined_with h e = by_half h.which
  where
    by_half : Which → Record
    by_half theFirst = joined_of h.entry e
    by_half theSecond = joined_of e h.entry

-- what is held when the k-th entry of a sight comes
abbrev pub held_before : ℕ → Channel → ℕ → One → Seen → ℕ → Option Half
held_before key c timer s v k = held_after_of c (spared key c (passed timer s v.step) v.sight) (take k v.sight.entries)

abbrev pub entry_at : Seen → ℕ → Record
entry_at v k = get_or v.sight.entries k no_record

-- what the k-th entry is told
abbrev pub said_at : ℕ → Channel → ℕ → ℕ → One → Seen → ℕ → Said
said_at key c timer group s v k = get_or (step_said key c timer group s v) k not_ours_of

-- the joined record, and whether it can be followed then
abbrev pub said_joined : ℕ → One → Seen → Half → Record → Said
said_joined group s v h e = saying group (known_then s v.sight) 3 (joined_with h e)

-- An entry is told 3 exactly where it meets the opposite half; then it is told the joined record, and the place is free.
abbrev pub AnEntryJoinsExactlyWhereTheOppositeHalfIsHeld : Type 0
AnEntryJoinsExactlyWhereTheOppositeHalfIsHeld =
    (key : ℕ) (c : Channel) (timer group : ℕ)
    → 1 ≤ timer
    → (s : One) (v : Seen) (k : ℕ)
    → k < length v.sight.entries
    → ((said_at key c timer group s v k).number ≡ 3 → OppositeHeld c timer (held_before key c timer s v k) (entry_at v k))
    × ((o : OppositeHeld c timer (held_before key c timer s v k) (entry_at v k))
    → (said_at key c timer group s v k ≡ said_joined group s v o.half (entry_at v k)) × (held_before key c timer s v (suc k) ≡ none))

-- the opposite half came in the past, nothing discarded it since, and their references agree
pub record OppositeInHistory (key : ℕ) (c : Channel) (timer : ℕ) (past : List Moment) (e : Record) : Type 0 where
  pub half : Half
  pub history : CameAndStayed key c timer past half
  pub opposite : Opposite (kind_on c e) half.which
  pub agrees : agree half.entry e ≡ true

-- what the receiver holds after any events is the half that came and stayed
abbrev pub WhatIsHeldCameAndStayed : Type 0
WhatIsHeldCameAndStayed =
    (key : ℕ) (c : Channel) (timer : ℕ)
    → 1 ≤ timer
    → (vs : List Seen) (h : Half)
    → ((one_after key c timer fresh vs).held ≡ some h → CameAndStayed key c timer (past_of [] vs) h)
    × (CameAndStayed key c timer (past_of [] vs) h → (one_after key c timer fresh vs).held ≡ some h)

-- After any events, the k-th entry of the next one is told 3 exactly where the opposite half came and nothing discarded it since.
abbrev pub AnEntryJoinsExactlyWhereTheOppositeHalfCameAndStayed : Type 0
AnEntryJoinsExactlyWhereTheOppositeHalfCameAndStayed =
    (key : ℕ) (c : Channel) (timer group : ℕ)
    → 1 ≤ timer
    → (vs : List Seen) (v : Seen) (k : ℕ)
    → k < length v.sight.entries
    → ((said_at key c timer group (one_after key c timer fresh vs) v k).number ≡ 3
    → OppositeInHistory key c timer (until_entry (past_of [] vs) v k) (entry_at v k))
    × ((o : OppositeInHistory key c timer (until_entry (past_of [] vs) v k) (entry_at v k))
    → said_at key c timer group (one_after key c timer fresh vs) v k ≡ said_joined group (one_after key c timer fresh vs) v o.half (entry_at v k))

-- ## 3. A refused event

abbrev pub ARefusedEventChangesNothing : Type 0
ARefusedEventChangesNothing = (r : Receiver) (e : Event) → ((step_of r e).refusal.number ≡ 0 → ⊥) → (step_of r e).receiver ≡ r

-- the number that an event in time carries: its message's own, 4 exactly where a joined key is above 199,999,999, 12 exactly where a bit is above 1, none otherwise
abbrev pub Ground : Happening → ℕ → Type 0
Ground (heardNch s) n = n ≡ (read_of s).refusal.number
Ground (heardFacch s) n = n ≡ (readFacch s).refusal.number
Ground (heard_pch ns) n = n ≡ (readPch ns).refusal.number
Ground (joins k) n = (k ≤ 199999999 → n ≡ 0) × (199999999 < k → n ≡ 4)
Ground (moves m) n = n ≡ 0
Ground (bit_is b) n = (b ≤ 1 → n ≡ 0) × (1 < b → n ≡ 12)
Ground passes n = n ≡ 0

-- a step of 2^31 or more is 9 whatever else is wrong; else the number is on the event's own ground; and it is the one that `refusal_of` names
abbrev pub TheNumberIsOnItsGround : Type 0
TheNumberIsOnItsGround =
    (r : Receiver) (e : Event)
    → (2147483648 ≤ wrap_sub e.tick r.tick → (step_of r e).refusal.number ≡ 9)
    × (wrap_sub e.tick r.tick < 2147483648 → Ground e.happening (step_of r e).refusal.number)
    × ((step_of r e).refusal ≡ refusal_of r e)

-- ## 4. Time that has passed

-- the receiver after events
unfoldable pub after : Receiver → List Event → Receiver
after r [] = r
after r (e ∷ es) = after (step_of r e).receiver es

abbrev pub half_of : ℕ → ℕ → Record → Option Half
half_of zero age e = none
half_of (suc zero) age e = some (record { which = theFirst; age = age; entry = e })
half_of (suc (suc n)) age e = some (record { which = theSecond; age = age; entry = e })

-- what a place holds, with the wrapped difference of the ticks for its age
abbrev pub held_of : ℕ → Slot → Option Half
held_of now s = half_of s.half (wrap_sub now s.since) s.«record»

abbrev pub slot_in : ℕ → Channel → Receiver → Slot
slot_in key c r = get_or r.slots (place_on (index_of (keys_of r) key) (number_of c)) empty_slot

-- After any events the place of a call holds what its own receiver holds, and the wrapped difference of the ticks is the sum of the accepted steps.
abbrev pub TheWrappedDifferenceIsTheSum : Type 0
TheWrappedDifferenceIsTheSum =
    (s : Setup) (keys groups : List ℕ)
    → s.tick < 4294967296
    → (started_of s keys groups).refusal.number ≡ 0
    → (key : ℕ)
    → first_of keys key < length keys
    → (c : Channel) (es : List Event)
    → Ticks es
    → held_of (after (started_of s keys groups).receiver es).tick (slot_in key c (after (started_of s keys groups).receiver es))
    ≡ (one_after key c (timer_of c s) fresh (seen key c s.tick es)).held

-- ## 5. Counts of what was lost

-- how many places were held before and are not after
unfoldable pub lost_between : List Slot → List Slot → ℕ
lost_between [] l = 0
lost_between (s ∷ ss) [] = 0
lost_between (s ∷ ss) (t ∷ ts) = as_bit (both (is_held s) (not (is_held t))) + lost_between ss ts

-- expiries and drops together are the halves held before the event and not after its own step, its entries not yet in
abbrev pub EveryLostHalfIsCountedOnce : Type 0
EveryLostHalfIsCountedOnce =
    (r : Receiver) (e : Event)
    → (step_of r e).refusal.number ≡ 0
    → (step_of r e).expired + (step_of r e).dropped ≡ lost_between r.slots (swept_slots r e.tick (rule_of r e))

-- an expiry is a half held before the event and not after its clock alone; a drop is one held after that and not after the event's own rule
abbrev pub ExpiriesAndDropsAreCountedApart : Type 0
ExpiriesAndDropsAreCountedApart =
    (r : Receiver) (e : Event)
    → (step_of r e).refusal.number ≡ 0
    → ((step_of r e).expired ≡ lost_between r.slots (swept_slots r e.tick keep))
    × ((step_of r e).dropped ≡ lost_between (swept_slots r e.tick keep) (swept_slots r e.tick (rule_of r e)))

-- ## 6. The whole answer, from the one-call receivers alone

abbrev pub reply_of : Answer → Reply
reply_of a = record { refusal = a.refusal; expired = a.expired; dropped = a.dropped; count = a.count; entries = a.entries; paged = a.paged }

-- A reply leaves nothing of an answer out but the receiver.
abbrev pub AReplyAndAReceiverAreAnAnswer : Type 0
AReplyAndAReceiverAreAnAnswer = (a b : Answer) → reply_of a ≡ reply_of b → a.receiver ≡ b.receiver → a ≡ b

-- the answer to the next event, after a setup and events
abbrev pub reply_to : Setup → List ℕ → List ℕ → List Event → Event → Reply
reply_to s keys groups es e = reply_of (step_of (after (started_of s keys groups).receiver es) e)

-- For every accepted setup and after any events, the whole answer to the next event is what the receivers of the single calls give.
abbrev pub TheAnswerIsTheCalls : Type 0
TheAnswerIsTheCalls =
    (s : Setup) (keys groups : List ℕ)
    → s.tick < 4294967296
    → (started_of s keys groups).refusal.number ≡ 0
    → (es : List Event)
    → Ticks es
    → (e : Event)
    → e.tick < 4294967296
    → reply_to s keys groups es e ≡ reply_by s es e keys groups

-- ## 7. When a call is told 3

-- the k-th entry of a call in an event, and what it is told after a setup and events
abbrev pub own_entry : ℕ → Channel → Event → ℕ → Record
own_entry key c e k = get_or (sight_of key c e.happening).entries k no_record

abbrev pub heard_at : Setup → List ℕ → List ℕ → List Event → Event → ℕ → Channel → ℕ → Said
heard_at s keys groups es e key c k = get_or (answers_on key c e (step_of (after (started_of s keys groups).receiver es) e)) k not_ours_of

-- what the call saw before that entry
abbrev pub past_at : Setup → List Event → Event → ℕ → Channel → ℕ → List Moment
past_at s es e key c k = until_entry (past_of [] (seen key c s.tick es)) (sees key c (last_tick s es) e) k

-- For every accepted setup and after any events, the k-th entry of a subscribed call in the next accepted event is told 3 exactly where the opposite half
-- came and nothing discarded it since; then it is told the joined record, and whether it can be followed with what is known of the cell then.
abbrev pub ACallJoinsExactlyWhen : Type 0
ACallJoinsExactlyWhen =
    (s : Setup) (keys groups : List ℕ)
    → s.tick < 4294967296
    → (started_of s keys groups).refusal.number ≡ 0
    → (key : ℕ)
    → first_of keys key < length keys
    → (c : Channel) (es : List Event)
    → Ticks es
    → (e : Event)
    → e.tick < 4294967296
    → (reply_to s keys groups es e).refusal.number ≡ 0
    → (k : ℕ)
    → k < length (sight_of key c e.happening).entries
    → ((heard_at s keys groups es e key c k).number ≡ 3
    → OppositeInHistory key c (timer_of c s) (past_at s es e key c k) (own_entry key c e k))
    × ((o : OppositeInHistory key c (timer_of c s) (past_at s es e key c k) (own_entry key c e k))
    → heard_at s keys groups es e key c k ≡ saying (set_under keys groups key) (known_on s es e key c) 3 (joined_with o.half (own_entry key c e k)))

-- ## 8. What the receiver and the one-call receiver share
-- An error here would be in both, so each is said in document 01's words.

-- "reference times 2 plus service flag (0 VBS, 1 VGCS)"; so two calls of one key have one reference and one service
abbrev pub AKeyIsTwiceTheReferencePlusTheService : Type 0
AKeyIsTwiceTheReferencePlusTheService =
    (c : Call) → (c.vgcs ≡ false → key_of c ≡ c.reference * 2) × (c.vgcs ≡ true → key_of c ≡ c.reference * 2 + 1)

abbrev pub AKeyTellsReferenceAndServiceApart : Type 0
AKeyTellsReferenceAndServiceApart = (a b : Call) → key_of a ≡ key_of b → (a.reference ≡ b.reference) × (a.vgcs ≡ b.vgcs)

-- "Ciphered means the key number isn't 0"; reduced references "all count as ciphered"
abbrev pub ACallIsCipheredByItsKeyNumber : Type 0
ACallIsCipheredByItsKeyNumber =
    (e : Record)
    → (e.full ≡ true → (e.call.cipher ≡ 0 → is_ciphered e ≡ false) × ((e.call.cipher ≡ 0 → ⊥) → is_ciphered e ≡ true))
    × (e.full ≡ false → is_ciphered e ≡ true)

-- the 36 bits of two references
pub record SameReference (a b : Call) : Type 0 where
  pub reference : a.reference ≡ b.reference
  pub service : a.vgcs ≡ b.vgcs
  pub acknowledged : a.acknowledged ≡ b.acknowledged
  pub priority : a.priority ≡ b.priority
  pub cipher : a.cipher ≡ b.cipher

-- "Two full references under one key must agree in all 36 bits"; where one is reduced, nothing is asked
abbrev pub FullReferencesAgreeInAllBits : Type 0
FullReferencesAgreeInAllBits =
    (a b : Record)
    → (a.full ≡ true
    → b.full ≡ true
    → (agree a b ≡ true → SameReference a.call b.call) × (SameReference a.call b.call → agree a b ≡ true))
    × (a.full ≡ false → agree a b ≡ true)
    × (b.full ≡ false → agree a b ≡ true)

-- a record in three parts: VSTK_RAND, the count with B22, and the rest
abbrev pub rand_in : Record → Bool × ℕ
rand_in e = (e.hasRandom, e.rand)

abbrev pub count_in : Record → Bool × ℕ × Bool
count_in e = (e.common.hasCount, e.common.cellcount, e.common.b22)

abbrev pub rest_in : Record → Record
rest_in e =
    record {
      full = e.full;
      call = e.call;
      hasSegment = e.hasSegment;
      segment = e.segment;
      hasRandom = false;
      rand = 0;
      emergency = e.emergency;
      common =
          record {
            hasCount = false;
            cellcount = 0;
            b22 = false;
            hasUplink = e.common.hasUplink;
            uplink = e.common.uplink;
            hasAmr = e.common.hasAmr;
            hasFullrate = e.common.hasFullrate;
            fullrate = e.common.fullrate;
            hasHalfrate = e.common.hasHalfrate;
            halfrate = e.common.halfrate;
            hasSms = e.common.hasSms;
            confidential = e.common.confidential;
            private = e.common.private;
          };
    }

abbrev pub ARecordIsItsThreeParts : Type 0
ARecordIsItsThreeParts = (a b : Record) → rest_in a ≡ rest_in b → rand_in a ≡ rand_in b → count_in a ≡ count_in b → a ≡ b

-- "A joined one takes everything from the first half"
abbrev pub TheRestIsOfTheFirstHalf : Type 0
TheRestIsOfTheFirstHalf = (first second : Record) → rest_in (joined_of first second) ≡ rest_in first

-- "VSTK_RAND from the second", which always has one
abbrev pub TheRandIsOfTheSecondHalf : Type 0
TheRandIsOfTheSecondHalf = (first second : Record) → second.hasRandom ≡ true → rand_in (joined_of first second) ≡ rand_in second

-- "and the count (with B22) from the second if there, else the first, else none"
abbrev pub TheCountIsOfTheSecondHalfOrTheFirst : Type 0
TheCountIsOfTheSecondHalfOrTheFirst =
    (first second : Record)
    → (second.common.hasCount ≡ true → count_in (joined_of first second) ≡ count_in second)
    × (second.common.hasCount ≡ false → count_in (joined_of first second) ≡ count_in first)

-- ## 9. The PCH: an entry under another key costs the half, so at most one is ever held

abbrev pub AtMostOnePCHHalfIsHeld : Type 0
AtMostOnePCHHalfIsHeld =
    (s : Setup) (keys groups : List ℕ)
    → s.tick < 4294967296
    → (started_of s keys groups).refusal.number ≡ 0
    → (es : List Event)
    → Ticks es
    → (a b : ℕ)
    → first_of keys a < length keys
    → first_of keys b < length keys
    → is_held (slot_in a onPch (after (started_of s keys groups).receiver es)) ≡ true
    → is_held (slot_in b onPch (after (started_of s keys groups).receiver es)) ≡ true
    → a ≡ b

-- ## 10. The cell's count

-- what a cell's number says where it is below the one that says that none is known
abbrev pub below : ℕ → ℕ → Option ℕ
below most n = pick (ltb n most) (some n) none

abbrev pub count_kept : Cell → Option ℕ
count_kept l = below 4 l.count

abbrev pub bit_known : Cell → Option ℕ
bit_known l = below 2 l.bit

-- For every accepted setup and after any events, the kept count is the last one taken since the cell was entered, raised once for each change of bit 22 from
-- 1 to 0 since, by what any call on any channel saw; and the bit is its last value since the cell was entered.
abbrev pub TheKeptCountIsThatOfTheHistory : Type 0
TheKeptCountIsThatOfTheHistory =
    (s : Setup) (keys groups : List ℕ)
    → s.tick < 4294967296
    → (started_of s keys groups).refusal.number ≡ 0
    → (key : ℕ) (c : Channel) (es : List Event)
    → Ticks es
    → (count_kept (after (started_of s keys groups).receiver es).cell ≡ kept_count (past_of [] (seen key c s.tick es)))
    × (bit_known (after (started_of s keys groups).receiver es).cell ≡ last_bit (since (past_of [] (seen key c s.tick es))))

-- Two accepted setups that are alike but for the sets of other keys say the same to a call.
abbrev pub ASetChangesNothingForAnotherCall : Type 0
ASetChangesNothingForAnotherCall =
    (s : Setup) (keys groups others : List ℕ)
    → s.tick < 4294967296
    → (started_of s keys groups).refusal.number ≡ 0
    → (started_of s keys others).refusal.number ≡ 0
    → (key : ℕ)
    → first_of keys key < length keys
    → set_under keys groups key ≡ set_under keys others key
    → (c : Channel) (es : List Event)
    → Ticks es
    → answers_each key c (started_of s keys groups).receiver es ≡ answers_each key c (started_of s keys others).receiver es

-- bit n of a set, for key number n, 1 to 15
abbrev pub ASetHoldsTheKeyNumbersOfItsBits : Type 0
ASetHoldsTheKeyNumbersOfItsBits =
    (group n : ℕ)
    → (holds group n ≡ true → (1 ≤ n) × (n ≤ 15) × (group / 2 ^ n % 2 ≡ 1)) × ((1 ≤ n) × (n ≤ 15) × (group / 2 ^ n % 2 ≡ 1) → holds group n ≡ true)

-- ## 11. A message that pages somebody

-- An accepted one touches no half: each place holds what the clock alone leaves there. No entry is told, and the answer says who is paged.
abbrev pub APageTouchesNoHalf : Type 0
APageTouchesNoHalf =
    (r : Receiver) (t : ℕ) (s : List ℕ)
    → (readFacch s).«record».paging ≡ true
    → (step_of r (facch t s)).refusal.number ≡ 0
    → ((step_of r (facch t s)).receiver.slots ≡ swept_slots r t keep) × ((step_of r (facch t s)).count ≡ 0) × ((step_of r (facch t s)).paged ≡ paged_of (readFacch s).«record»)

-- ## 12. More subscriptions (document 02, §10)

-- Two accepted setups alike but for their keys, those of the first all in the second with the same group keys: after the same events both answer the next one alike, the
-- counts of lost halves and what is told under the new keys aside. Read from the second to the first it says what it is to take subscriptions away.
abbrev pub MoreSubscriptionsSameAnswers : Type 0
MoreSubscriptionsSameAnswers =
    (s : Setup) (keys groups more others : List ℕ)
    → s.tick < 4294967296
    → (started_of s keys groups).refusal.number ≡ 0
    → (started_of s more others).refusal.number ≡ 0
    → Within keys groups more others
    → (es : List Event)
    → Ticks es
    → (e : Event)
    → e.tick < 4294967296
    → blanked keys more (reply_to s keys groups es e) ≡ blanked keys more (reply_to s more others es e)

-- the j-th entry of an answer
abbrev pub entry_no : Reply → ℕ → Told
entry_no a j = get_or a.entries j no_told

-- What two answers have in common, in document 02's words: the number and the bit of a refusal; how many entries there are, and their keys in order; under a key of the first
-- setup what is told, with record, follow and count; under a key of neither the number 0; and who is paged.
pub record SameAnswers (keys more : List ℕ) (a b : Reply) : Type 0 where
  pub refused : a.refusal ≡ b.refusal
  pub counted : a.count ≡ b.count
  pub keyed : (j : ℕ) → (entry_no a j).key ≡ (entry_no b j).key
  pub told : (j : ℕ) → subscribed keys (entry_no a j).key ≡ true → entry_no a j ≡ entry_no b j
  pub unheard : (j : ℕ) → subscribed more (entry_no a j).key ≡ false → ((entry_no a j).number ≡ 0) × (entry_no a j ≡ entry_no b j)
  pub paging : a.paged ≡ b.paged

abbrev pub MoreSubscriptionsLeaveTheRestAlone : Type 0
MoreSubscriptionsLeaveTheRestAlone =
    (s : Setup) (keys groups more others : List ℕ)
    → s.tick < 4294967296
    → (started_of s keys groups).refusal.number ≡ 0
    → (started_of s more others).refusal.number ≡ 0
    → Within keys groups more others
    → (es : List Event)
    → Ticks es
    → (e : Event)
    → e.tick < 4294967296
    → SameAnswers keys more (reply_to s keys groups es e) (reply_to s more others es e)
