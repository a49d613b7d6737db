-- What is promised of the lent octets: events chain, no call disturbs another (demand 3), each answer is the calls', and more subscriptions leave it. Assumes nothing.
use Rattle.std.specs.Prelude.{◌≡◌, List, [], ◌∷◌, ◌++◌, map, ℕ, ◌/◌, ◌%◌, ◌<◌, length, take, eqb}
use Rattle.bits.specs.Field.{pick}
use Rattle.csn1.specs.Told.{code_of}
use Rattle.receiver.specs.declared.Setup.{Setup}
use Rattle.receiver.specs.Halving.{first_of}
use Rattle.receiver.specs.Channels.{Channel}
use Rattle.receiver.specs.Step.{Event, refusal_of}
use Rattle.isolation.specs.One.{hears, Said, run_one, run_each, seen, fresh}
use Rattle.isolation.specs.Calls.{timer_of, set_under, channel_in, Reply, reply_by}
use Rattle.isolation.specs.Subscriptions.{Within, blank_new}
use Rattle.isolation.specs.Promises.{under, Ticks}
use Rattle.layout.specs.Layout.{state_length, decode_of, Last, last_of}
use Rattle.layout.specs.Setup.{SetUp}
use Rattle.lent.specs.Events.{Fed, Returned, octets_after, event_code}

-- ## Events in a row

-- each call was made on the octets that the one before it left, and met its statement
abbrev pub Run : List ℕ → List Event → List Returned → Type 0
Run l [] [] = Unit {0}
Run l [] (a ∷ rest) = ⊥
Run l (e ∷ es) [] = ⊥
Run l (e ∷ es) (a ∷ rest) = Fed l e a.octets a.code × Run a.octets es rest

-- ## 1. Isolation over octets

-- the answers under a key that stand in the octets of an accepted event, on the channel of its message
unfoldable pub heard : ℕ → Channel → Event → Last → List Said
heard key c e a = pick (hears c (channel_in e)) (under key (take a.count a.entries)) []

-- what a host reads under a key after each call: nothing where the event was refused
unfoldable pub read_under : ℕ → Channel → List Event → List Returned → List Said
read_under key c [] rest = []
read_under key c (e ∷ es) [] = []
read_under key c (e ∷ es) (a ∷ rest) = pick (eqb a.code 0) (heard key c e (last_of a.octets)) [] ++ read_under key c es rest

-- the same with what is read after each call in a list of its own
unfoldable pub read_each : ℕ → Channel → List Event → List Returned → List (List Said)
read_each key c [] rest = []
read_each key c (e ∷ es) [] = []
read_each key c (e ∷ es) (a ∷ rest) = pick (eqb a.code 0) (heard key c e (last_of a.octets)) [] ∷ read_each key c es rest

-- For every lent octets that an accepted setup filled, and every run of events on them: what is read under a subscribed key on a channel is exactly what
-- the one-call receiver answers to what that call sees.
abbrev pub NoCallDisturbsAnotherInOctets : Type 0
NoCallDisturbsAnotherInOctets =
    (l : List ℕ) (s : Setup) (keys groups left : List ℕ)
    → SetUp l s keys groups left 0
    → s.tick < 4294967296
    → (key : ℕ)
    → first_of keys key < length keys
    → (c : Channel) (es : List Event) (run : List Returned)
    → Ticks es
    → Run left es run
    → read_under key c es run ≡ run_one key c (timer_of c s) (set_under keys groups key) fresh (seen key c s.tick es)

-- The same event by event: nothing is read after another event than its own.
abbrev pub NoCallDisturbsAnotherAtAnyEventInOctets : Type 0
NoCallDisturbsAnotherAtAnyEventInOctets =
    (l : List ℕ) (s : Setup) (keys groups left : List ℕ)
    → SetUp l s keys groups left 0
    → s.tick < 4294967296
    → (key : ℕ)
    → first_of keys key < length keys
    → (c : Channel) (es : List Event) (run : List Returned)
    → Ticks es
    → Run left es run
    → read_each key c es run ≡ run_each key c (timer_of c s) (set_under keys groups key) fresh s.tick es

-- ## 2. The whole answer over octets

-- the octets that a run leaves
abbrev pub left_after : List ℕ → List Returned → List ℕ
left_after l [] = l
left_after l (a ∷ rest) = left_after a.octets rest

-- an answer as it is read, without its refusal
abbrev pub shown : Reply → Last
shown a = record { expired = a.expired; dropped = a.dropped; count = a.count; entries = a.entries; paged = a.paged }

-- For every lent octets that an accepted setup filled, and after every run of events on them: the next call returns the number and the bit that the receivers of the
-- single calls give, and where that is 0, what is read then is their whole answer.
abbrev pub TheAnswerIsTheCallsInOctets : Type 0
TheAnswerIsTheCallsInOctets =
    (l : List ℕ) (s : Setup) (keys groups left : List ℕ)
    → SetUp l s keys groups left 0
    → s.tick < 4294967296
    → (es : List Event) (run : List Returned)
    → Ticks es
    → Run left es run
    → (e : Event)
    → e.tick < 4294967296
    → (a : Returned)
    → Fed (left_after left run) e a.octets a.code
    → (a.code ≡ code_of (reply_by s es e keys groups).refusal) × (a.code ≡ 0 → last_of a.octets ≡ shown (reply_by s es e keys groups))

-- ## 3. A refused event

-- every octet stays as it was
abbrev pub ARefusedEventLeavesTheOctets : Type 0
ARefusedEventLeavesTheOctets = (l : List ℕ) (e : Event) → (event_code l e ≡ 0 → ⊥) → octets_after l e ≡ l

-- ## 4. The length

-- no event changes it, so a state stays a state
abbrev pub TheLengthStays : Type 0
TheLengthStays = (l : List ℕ) (e : Event) → length (octets_after l e) ≡ length l

-- ## 5. What a statement determines

-- two calls of one event on the same octets leave the same, and return the same
abbrev pub FedDetermines : Type 0
FedDetermines = (l : List ℕ) (e : Event) (a b : List ℕ) (m n : ℕ) → Fed l e a m → Fed l e b n → (a ≡ b) × (m ≡ n)

-- ## 6. What a call returns

-- the low octet is the number of the refusal, and what is above it the bit: none is cut off
abbrev pub AResultTellsNumberAndBit : Type 0
AResultTellsNumberAndBit =
    (l : List ℕ) (e : Event)
    → length l ≡ state_length
    → (event_code l e % 256 ≡ (refusal_of (decode_of l) e).number) × (event_code l e / 256 ≡ (refusal_of (decode_of l) e).bit)

-- ## 7. More subscriptions (document 02, §10)

-- what is read of an answer, without the counts of lost halves and without what is told under the new keys
abbrev pub blanked_last : List ℕ → List ℕ → Last → Last
blanked_last keys more a = record { expired = 0; dropped = 0; count = a.count; entries = map (blank_new keys more) a.entries; paged = a.paged }

-- For any octets that two accepted setups filled, alike but for their keys, those of the first all in the second with the same group keys, and after a run of the same events on
-- each: the next call returns the same number and bit on both, and where that is 0, what is read then is alike but for the counts of lost halves and the new keys.
abbrev pub MoreSubscriptionsSameAnswersInOctets : Type 0
MoreSubscriptionsSameAnswersInOctets =
    (s : Setup) (keys groups more others : List ℕ)
    → s.tick < 4294967296
    → Within keys groups more others
    → (l left m right : List ℕ)
    → SetUp l s keys groups left 0
    → SetUp m s more others right 0
    → (es : List Event) (run again : List Returned)
    → Ticks es
    → Run left es run
    → Run right es again
    → (e : Event)
    → e.tick < 4294967296
    → (a b : Returned)
    → Fed (left_after left run) e a.octets a.code
    → Fed (left_after right again) e b.octets b.code
    → (a.code ≡ b.code) × (a.code ≡ 0 → blanked_last keys more (last_of a.octets) ≡ blanked_last keys more (last_of b.octets))
