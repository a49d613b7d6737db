-- What is promised of the uplink's lent octets: the promises of the uplink, as a C host sees them. Assumes nothing.
use Rattle.std.specs.Prelude.{◌≡◌, ◌⊎◌, List, [], ◌∷◌, ◌++◌, ℕ, ◌/◌, ◌%◌, ◌<◌, length, eqb}
use Rattle.bits.specs.Field.{pick}
use Rattle.uplink.specs.declared.Signal.{Signal}
use Rattle.uplink.specs.declared.Setup.{Setup}
use Rattle.uplink.specs.Uplink.{Event}
use Rattle.uplink.specs.History.{moments, Reply, reply_by}
use Rattle.uplink.specs.Promises.{elapsed, FreeThen, FreedSoon, Over}
use Rattle.uplink_lent.specs.State.{end_number, told_number, result_of, setup_code, setup_octets, code_of, octets_after}

-- ## 1. A setup

abbrev pub ARefusedSetupLeavesTheOctets : Type 0
ARefusedSetupLeavesTheOctets = (l : List ℕ) (s : Setup) → (setup_code l s ≡ 0 → ⊥) → setup_octets l s ≡ l

-- Two setups with the same numbers, on any octets of one length, answer the same number, and where it is 0 they leave the same octets.
abbrev pub AnAcceptedSetupDoesNotDependOnWhatWasThere : Type 0
AnAcceptedSetupDoesNotDependOnWhatWasThere =
    (l l' : List ℕ) → length l ≡ length l' → (s : Setup) → (setup_code l s ≡ setup_code l' s) × (setup_code l s ≡ 0 → setup_octets l s ≡ setup_octets l' s)

-- ## 2. A result

-- its three octets, as the header takes them
abbrev pub refusal_in : ℕ → ℕ
refusal_in n = n % 256

abbrev pub end_in : ℕ → ℕ
end_in n = n / 256 % 256

abbrev pub told_in_of : ℕ → ℕ
told_in_of n = n / 65536 % 256

-- nothing of a reply is lost
abbrev pub AResultTellsItsReply : Type 0
AResultTellsItsReply =
    (r : Reply)
    → r.refusal < 256
    → (refusal_in (result_of r) ≡ r.refusal) × ((end_in (result_of r) ≡ end_number r.end) × (told_in_of (result_of r) ≡ told_number r.told))

-- ## 3. An event

abbrev pub ARefusedEventLeavesTheOctets : Type 0
ARefusedEventLeavesTheOctets = (l : List ℕ) (e : Event) → (refusal_in (code_of l e) ≡ 0 → ⊥) → octets_after l e ≡ l

-- no event changes it, so a state stays a state
abbrev pub TheLengthStays : Type 0
TheLengthStays = (l : List ℕ) (e : Event) → length (octets_after l e) ≡ length l

-- ## 4. The whole answer is the history's

-- the octets that events leave, each on those that the one before it left
unfoldable pub left_after : List ℕ → List Event → List ℕ
left_after l [] = l
left_after l (e ∷ es) = left_after (octets_after l e) es

-- every tick is a number of 32 bits
abbrev pub Ticks : List Event → Type 0
Ticks [] = Unit {0}
Ticks (e ∷ es) = (e.tick < 4294967296) × Ticks es

-- For any octets that an accepted setup filled, and after any events on them, refused ones among them, the next result is what the history says.
abbrev pub TheAnswerFollowsFromTheHistoryInOctets : Type 0
TheAnswerFollowsFromTheHistoryInOctets =
    (l : List ℕ) (s : Setup)
    → setup_code l s ≡ 0
    → s.tick < 4294967296
    → (es : List Event)
    → Ticks es
    → (e : Event)
    → code_of (left_after (setup_octets l s) es) e ≡ result_of (reply_by s es e)

-- ## 5. Exactly once

unfoldable pub results : List ℕ → List Event → List ℕ
results l [] = []
results l (e ∷ es) = code_of l e ∷ results (octets_after l e) es

-- the ends among results, 1 or 2, up to and with the result of the next request that is told 3, waiting
unfoldable pub ends_among : List ℕ → List ℕ
ends_among [] = []
ends_among (n ∷ ns) = pick (eqb (end_in n) 0) [] (end_in n ∷ []) ++ pick (eqb (told_in_of n) 3) [] (ends_among ns)

-- everything that a request is given: 1 at its own event where that grants it, then the ends of the events that follow
abbrev pub given_in : List ℕ → Event → List Event → List ℕ
given_in l e fs = pick (eqb (told_in_of (code_of l e)) 1) (1 ∷ []) [] ++ ends_among (results (octets_after l e) fs)

-- the same on octets that a setup and events left
abbrev pub given_after : List ℕ → Setup → List Event → Event → List Event → List ℕ
given_after l s es e fs = given_in (left_after (setup_octets l s) es) e fs

-- a request on octets that an accepted setup and events left, accepted and not told 4, already waiting
pub record AsksInOctets (l : List ℕ) (s : Setup) (es : List Event) (e : Event) : Type 0 where
  pub right : setup_code l s ≡ 0
  pub first : s.tick < 4294967296
  pub before : Ticks es
  pub tick : e.tick < 4294967296
  pub request : e.signal ≡ Signal.Request
  pub accepted : refusal_in (code_of (left_after (setup_octets l s) es) e) ≡ 0
  pub own : told_in_of (code_of (left_after (setup_octets l s) es) e) ≡ 4 → ⊥

-- a request is given 1 or 2, granted or rejected, once, or nothing yet, and waits within its time
abbrev pub EachRequestEndsExactlyOnceInOctets : Type 0
EachRequestEndsExactlyOnceInOctets =
    (l : List ℕ) (s : Setup) (es : List Event) (e : Event) (fs : List Event)
    → AsksInOctets l s es e
    → Ticks fs
    → (given_after l s es e fs ≡ 1 ∷ [])
    ⊎ ((given_after l s es e fs ≡ 2 ∷ []) ⊎ ((given_after l s es e fs ≡ []) × (elapsed (moments e.tick fs) < s.t3128)))

-- ## 6. Exactly when

abbrev pub ARequestIsGrantedExactlyWhenInOctets : Type 0
ARequestIsGrantedExactlyWhenInOctets =
    (l : List ℕ) (s : Setup) (es : List Event) (e : Event) (fs : List Event)
    → AsksInOctets l s es e
    → Ticks fs
    → (given_after l s es e fs ≡ 1 ∷ [] → FreeThen s es e ⊎ FreedSoon s e fs)
    × (FreeThen s es e ⊎ FreedSoon s e fs → given_after l s es e fs ≡ 1 ∷ [])

abbrev pub ARequestIsRejectedExactlyWhenInOctets : Type 0
ARequestIsRejectedExactlyWhenInOctets =
    (l : List ℕ) (s : Setup) (es : List Event) (e : Event) (fs : List Event)
    → AsksInOctets l s es e
    → Ticks fs
    → (given_after l s es e fs ≡ 2 ∷ [] → (FreeThen s es e → ⊥) × Over s e fs)
    × ((FreeThen s es e → ⊥) × Over s e fs → given_after l s es e fs ≡ 2 ∷ [])
