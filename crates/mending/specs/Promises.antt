-- What is promised of mending a capture (document 02, §12). proofs/Promises and Mends prove each. Assumes nothing.
use Rattle.std.specs.Prelude.{◌≡◌, List, [], ◌∷◌, ◌++◌, ℕ, ◌<◌, length, get_or, eqb}
use Rattle.bits.specs.Field.{pick}
use Rattle.capture.specs.Capture.{Part, parts_of}
use Rattle.capture.specs.Replay.{Said, Stage, before, is_over, said_of, stage_after, header, line_text, next_number, replay_of}
use Rattle.capture.specs.Machine.{kept_length}
use Rattle.capture.specs.Mend.{then_listed, mend_of}
use Rattle.capture.specs.Mending.{mending_of, mend_ending, mend_begun}
use Rattle.mending.specs.Calls.{MendCall, mend_behind, mend_taken, mend_written, MendReturned, MendRan, mend_octets_in, mend_parted_in, mend_left_in}
use Rattle.mending.specs.Cuts.{cuts_of, together, copied_of, listed_of}

-- ## 1. However a capture is cut, the same is copied and listed

-- each is one
abbrev pub Octets : List ℕ → Type 0
Octets s = (i : ℕ) → get_or s i 0 < 256

-- Whatever pieces are offered, empty ones among them, and whatever octets are lent: what the calls copy and list, and what the end adds to the list, are those of the octets that they took.
abbrev pub HoweverItIsCutTheMendingIsTheSame : Type 0
HoweverItIsCutTheMendingIsTheSame =
    (kept state : List ℕ)
    → length kept ≡ kept_length
    → (calls : List MendCall)
    → Octets (mend_taken (mending_of mend_begun kept state) calls)
    → then_listed (mend_written (mending_of mend_begun kept state) calls) (mend_ending (mend_behind (mending_of mend_begun kept state) calls))
    ≡ mend_of (mend_taken (mending_of mend_begun kept state) calls)

-- The same of the calls of `feed` themselves, each of which met its statement.
abbrev pub HoweverFeedIsCalledTheMendingIsTheSame : Type 0
HoweverFeedIsCalledTheMendingIsTheSame =
    (kept state : List ℕ)
    → length kept ≡ kept_length
    → (calls : List MendCall) (run : List MendReturned)
    → MendRan mend_begun kept state calls run
    → Octets (mend_octets_in calls run)
    → then_listed (mend_parted_in calls run) (mend_ending (mend_left_in (mending_of mend_begun kept state) run)) ≡ mend_of (mend_octets_in calls run)

-- ## 2. What is mended replays without a refusal

-- what the parts are answered with, one behind the other, until the run is over
unfoldable pub saids_from : Stage → List Part → List Said
saids_from st [] = []
saids_from st (p ∷ ps) = pick (is_over st) [] (said_of p st ∷ saids_from (stage_after p st) ps)

abbrev pub saids_of : List ℕ → List Said
saids_of s = saids_from before (parts_of s)

-- their lines, numbered from n on
unfoldable pub numbered : ℕ → List Said → List ℕ
numbered n [] = []
numbered n (a ∷ bs) = line_text n a ++ numbered (next_number n) bs

-- those that are no refusal
unfoldable pub accepted : List Said → List Said
accepted [] = []
accepted (a ∷ bs) = pick (eqb a.refusal 0) (a ∷ accepted bs) (accepted bs)

abbrev pub TheReplayIsTheAnswersNumbered : Type 0
TheReplayIsTheAnswersNumbered = (s : List ℕ) → replay_of s ≡ header ++ numbered 1 (saids_of s)

-- The same entries told and drops in the same order, and no refusal. (Without an accepted setup nothing is copied, and nothing is answered.)
abbrev pub WhatIsMendedReplaysAsWhatWasAccepted : Type 0
WhatIsMendedReplaysAsWhatWasAccepted = (s : List ℕ) → replay_of (mend_of s).copied ≡ header ++ numbered 1 (accepted (saids_of s))

-- ## 3. A clean capture comes back, and mending twice is mending once

-- no answer is a refusal
abbrev pub Clean : List Said → Type 0
Clean [] = Unit {0}
Clean (a ∷ bs) = (a.refusal ≡ 0) × Clean bs

abbrev pub ACleanCaptureComesBack : Type 0
ACleanCaptureComesBack = (s : List ℕ) → Octets s → Clean (saids_of s) → mend_of s ≡ record { copied = s; listed = [] }

abbrev pub MendingTwiceIsMendingOnce : Type 0
MendingTwiceIsMendingOnce = (s : List ℕ) → mend_of (mend_of s).copied ≡ record { copied = (mend_of s).copied; listed = [] }

-- ## 4. Nothing is lost

abbrev pub NothingIsLost : Type 0
NothingIsLost = (s : List ℕ) → Octets s → (together (cuts_of s) ≡ s) × (mend_of s ≡ record { copied = copied_of (cuts_of s); listed = listed_of 1 0 (cuts_of s) })
