-- What is promised of the yard set (document 02, §13). Assumes nothing.
use Rattle.std.specs.Prelude.{◌≡◌, true, List, [], ◌∷◌, ℕ, ◌<◌}
use Rattle.receiver.specs.declared.Setup.{Setup}
use Rattle.receiver.specs.Channels.{onNch}
use Rattle.receiver.specs.Model.{started_of}
use Rattle.receiver.specs.Step.{Event}
use Rattle.isolation.specs.One.{seen}
use Rattle.isolation.specs.Calls.{set_under}
use Rattle.isolation.specs.Promises.{Ticks}
use Rattle.lent.specs.Events.{Returned, octets_after}
use Rattle.yard.specs.Yard.{Yard, yard_right, yard_refusal, yard_step, called_in, yard_started}
use Rattle.yard.specs.Octets.{inside, yard_of, yard_code, yard_octets, YardFed, YardSetUp}
use Rattle.yard.specs.History.{calls_of, look_back, moments_of, watch_after, fresh_watch, taken}

-- ## 1. The calls

-- the yard set after events
unfoldable pub yard_after : Yard → List Event → Yard
yard_after y [] = y
yard_after y (e ∷ es) = yard_after (yard_step y e) es

-- For every accepted setup and after any events, refused ones among them, the calls that are shown are those worked out from all accepted events and the receiver's answers.
abbrev pub TheCallsAreThoseOfTheHistory : Type 0
TheCallsAreThoseOfTheHistory =
    (s : Setup) (keys groups : List ℕ)
    → s.tick < 4294967296
    → yard_right keys ≡ true
    → (started_of s keys groups).refusal.number ≡ 0
    → (es : List Event)
    → Ticks es
    → called_in (yard_after (yard_started s keys groups) es) ≡ calls_of (λ key. look_back key 0 (moments_of [] (started_of s keys groups).receiver es)) keys

-- ## 2. No call disturbs another

-- And what is shown under a key is what a yard set of that one call shows, which sees only what that call's one-call receiver sees.
abbrev pub NoCallDisturbsAnotherInTheYard : Type 0
NoCallDisturbsAnotherInTheYard =
    (s : Setup) (keys groups : List ℕ)
    → s.tick < 4294967296
    → yard_right keys ≡ true
    → (started_of s keys groups).refusal.number ≡ 0
    → (es : List Event)
    → Ticks es
    → called_in (yard_after (yard_started s keys groups) es)
    ≡ calls_of (λ key. (watch_after key s.t3206 (set_under keys groups key) fresh_watch (seen key onNch s.tick (taken es))).current) keys

-- ## 3. A refused event

-- it changes nothing, the clock included
abbrev pub ARefusedEventChangesNoYard : Type 0
ARefusedEventChangesNoYard = (y : Yard) (e : Event) → ((yard_refusal y.receiver e).number ≡ 0 → ⊥) → yard_step y e ≡ y

-- and no octet
abbrev pub ARefusedEventLeavesTheYardOctets : Type 0
ARefusedEventLeavesTheYardOctets = (l : List ℕ) (e : Event) → (yard_code l e ≡ 0 → ⊥) → yard_octets l e ≡ l

-- ## 4. Over octets

-- each call was made on the octets that the one before it left, and met its statement
abbrev pub YardRun : List ℕ → List Event → List Returned → Type 0
YardRun l [] [] = Unit {0}
YardRun l [] (a ∷ rest) = ⊥
YardRun l (e ∷ es) [] = ⊥
YardRun l (e ∷ es) (a ∷ rest) = YardFed l e a.octets a.code × YardRun a.octets es rest

-- the octets that a run leaves
abbrev pub left_behind : List ℕ → List Returned → List ℕ
left_behind l [] = l
left_behind l (a ∷ rest) = left_behind a.octets rest

-- For every lent octets that an accepted setup filled, and after every run of events on them, they are read as the yard set by value after the same events: what is promised
-- of that is promised of them.
abbrev pub TheOctetsAreTheYardSet : Type 0
TheOctetsAreTheYardSet =
    (l : List ℕ) (s : Setup) (keys groups left : List ℕ)
    → YardSetUp l s keys groups left 0
    → (es : List Event) (run : List Returned)
    → YardRun left es run
    → yard_of (left_behind left run) ≡ yard_after (yard_started s keys groups) es

-- The receiver inside is exactly the receiver: an accepted event leaves the octets that the receiver's own leaves, a refused one leaves all.
abbrev pub TheReceiverInsideIsTheReceiver : Type 0
TheReceiverInsideIsTheReceiver =
    (l : List ℕ) (e : Event) (left : List ℕ) (code : ℕ)
    → YardFed l e left code
    → (code ≡ 0 → inside left ≡ octets_after (inside l) e) × ((code ≡ 0 → ⊥) → left ≡ l)

-- two calls of one event on the same octets leave the same, and return the same
abbrev pub YardFedDetermines : Type 0
YardFedDetermines = (l : List ℕ) (e : Event) (a b : List ℕ) (m n : ℕ) → YardFed l e a m → YardFed l e b n → (a ≡ b) × (m ≡ n)

-- and two setups with the same numbers, keys and sets
abbrev pub YardSetUpDetermines : Type 0
YardSetUpDetermines =
    (l : List ℕ) (s : Setup) (keys groups a b : List ℕ) (m n : ℕ) → YardSetUp l s keys groups a m → YardSetUp l s keys groups b n → (a ≡ b) × (m ≡ n)
